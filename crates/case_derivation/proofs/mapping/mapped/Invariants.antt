use Rattle.std.proofs.Common.{◌≡◌, ◌++◌, drop}
use Rattle.case_derivation.specs.Steps.{mapped_by}
use Rattle.case_derivation.proofs.mapping.mapped.Given as goal

-- what is left, behind the points so far, is what all gives
abbrev pub invariant-members : goal.invariant-members
invariant-members g l = l.points ++ mapped_by (g.W.FactView.facts_of l.view) l.casing (drop l.c-index l.s) ≡ mapped_by (g.W.FactView.facts_of l.view) l.casing l.s
