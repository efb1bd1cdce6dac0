use Rattle.std.proofs.Common.{take, All}
use Rattle.part_list.specs.Covers.{CoversMore, IsCovered}
use Rattle.part_list.proofs.cover.Cover.put_all.Given as goal

-- the entries so far are covered
abbrev pub invariant-entries : goal.invariant-entries
invariant-entries g l = record {
  put : All (IsCovered l.self) (take l.entry-index l.entries);
  grows : CoversMore l.fn.self l.self;
}
