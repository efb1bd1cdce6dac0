use Rattle.std.proofs.Common.{◌≡◌, ◌++◌, drop}
use Rattle.ucd_model.specs.Casing.{title}
use Rattle.case_derivation.specs.Steps.{titled}
use Rattle.case_derivation.proofs.titling.title.Given as goal

-- the title of what is left, behind the points so far, is the title of all
abbrev pub invariant-members : goal.invariant-members
invariant-members g l = l.points ++ titled (g.W.FactView.facts_of l.view) l.begun (drop l.c-index l.s) ≡ title (g.W.FactView.facts_of l.view) l.s
