use Rattle.std.proofs.Common.{◌≡◌, drop}
use Rattle.ucd_model.specs.Identifiers.{continues}
use Rattle.identifier_closure.proofs.identifiers.all_continue.Given as goal

-- what holds of those that are left is what holds of all
abbrev pub invariant-members : goal.invariant-members
invariant-members g l = continues (g.W.FactView.facts_of l.view) (drop l.point-index l.points) ≡ continues (g.W.FactView.facts_of l.view) l.points
