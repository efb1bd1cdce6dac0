use Rattle.std.proofs.Common.{◌≡◌, drop, Ok}
use Rattle.ucd_model.specs.Forms.{appended, expansions}
use Rattle.normalisation.proofs.forms.expansions.Given as goal

-- what is left, behind the points so far, is what all gives
abbrev pub invariant-members : goal.invariant-members
invariant-members g l = appended (Ok l.points) (expansions (g.W.FactView.facts_of l.view) l.compat (drop l.c-index l.s)) ≡ expansions (g.W.FactView.facts_of l.view) l.compat l.s
