use Rattle.std.proofs.Common.{◌≡◌, drop}
use Rattle.std.specs.List.{list_all}
use Rattle.fold_rounds.specs.Steps.{is_settled}
use Rattle.fold_rounds.proofs.settled.is_settled.Given as goal

-- what holds of those that are left is what holds of all
abbrev pub invariant-members : goal.invariant-members
invariant-members g l =
    list_all (λ x. is_settled x (g.W.FactView.facts_of l.view x)) (drop l.x-index l.s) ≡ list_all (λ x. is_settled x (g.W.FactView.facts_of l.view x)) l.s
