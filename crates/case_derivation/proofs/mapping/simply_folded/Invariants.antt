use Rattle.std.proofs.Common.{◌≡◌, ◌++◌, drop}
use Rattle.ucd_model.specs.Casing.{folded}
use Rattle.ucd_facts.specs.declared.folding.Folding.TheVariants.{Simple}
use Rattle.case_derivation.proofs.mapping.simply_folded.Given as goal

-- what is left, behind the points so far, is what all gives
abbrev pub invariant-members : goal.invariant-members
invariant-members g l = l.points ++ folded Simple (g.W.FactView.facts_of l.view) (drop l.c-index l.s) ≡ folded Simple (g.W.FactView.facts_of l.view) l.s
