use Rattle.std.proofs.Common.{take, All}
use Rattle.part_list.specs.Reaches.{IsWithin, IsWider}
use Rattle.part_list.proofs.reach.Reach.with_all.Given as goal

-- the entries so far are within the reach
abbrev pub invariant-entries : goal.invariant-entries
invariant-entries g l = record {
  entries : All (IsWithin l.reach) (take l.entry-index l.entries);
  wider : IsWider l.fn.self l.reach;
}
