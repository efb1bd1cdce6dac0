use Rattle.std.proofs.Common.{◌≡◌, drop}
use Rattle.fold_rounds.specs.Steps.{has_composite}
use Rattle.fold_rounds.proofs.settled.has_canonical_mapping.Given as goal

-- what holds of those that are left is what holds of all
abbrev pub invariant-members : goal.invariant-members
invariant-members g l = has_composite (g.W.FactView.facts_of l.view) (drop l.x-index l.s) ≡ has_composite (g.W.FactView.facts_of l.view) l.s
