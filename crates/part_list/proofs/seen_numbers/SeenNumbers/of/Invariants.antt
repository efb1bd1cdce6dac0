use Rattle.part_list.specs.SeenNumbers.{IsKnown}
use Rattle.part_list.proofs.GatherLemmas.{AllShown}
use Rattle.part_list.proofs.seen_numbers.SeenNumbers.of.Given as goal

-- the tags of the entries of the parts so far are known
abbrev pub invariant-parts : goal.invariant-parts
invariant-parts g l = AllShown (IsKnown l.tags) l.parts l.part-index
