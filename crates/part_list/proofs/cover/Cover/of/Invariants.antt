use Rattle.part_list.specs.Covers.{IsCovered}
use Rattle.part_list.proofs.GatherLemmas.{AllShown}
use Rattle.part_list.proofs.cover.Cover.of.Given as goal

-- the entries of the parts so far are covered
abbrev pub invariant-parts : goal.invariant-parts
invariant-parts g l = AllShown (IsCovered l.cover) l.parts l.part-index
