use Rattle.std.proofs.Common.{take, All}
use Rattle.part_list.specs.SeenNumbers.{Grows, IsKnown}
use Rattle.part_list.proofs.seen_numbers.SeenNumbers.put_all.Given as goal

-- the tags of the entries so far are known
abbrev pub invariant-entries : goal.invariant-entries
invariant-entries g l = record {
  known : All (IsKnown l.self) (take l.entry-index l.entries);
  grows : Grows l.fn.self l.self;
}
