use Rattle.std.proofs.Common.{◌≡◌, drop}
use Rattle.fold_rounds.specs.Steps.{are_alike}
use Rattle.fold_rounds.proofs.alike.all_fold_alike.Given as goal

-- what holds of those that are left is what holds of all
abbrev pub invariant-members : goal.invariant-members
invariant-members g l = are_alike (g.W.FactView.facts_of l.view) (drop l.x-index l.s) ≡ are_alike (g.W.FactView.facts_of l.view) l.s
