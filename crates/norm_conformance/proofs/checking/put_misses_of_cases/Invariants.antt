use Rattle.std.proofs.Common.{◌≡◌, ◌++◌, take, flat_map}
use Rattle.norm_conformance.specs.Misses.{line_misses}
use Rattle.norm_conformance.proofs.checking.put_misses_of_cases.Given as goal

-- what is missed of the cases so far
abbrev pub invariant-cases : goal.invariant-cases
invariant-cases g l = l.found ≡ l.initial.found ++ flat_map (line_misses (g.W.FactView.facts_of l.view)) (take l.case-index l.cases)
