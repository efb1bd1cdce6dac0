use Rattle.std.proofs.Common.{◌≡◌, not, drop}
use Rattle.std.specs.List.{list_any}
use Rattle.identifier_closure.proofs.missing_rows.has_member_without_row.Given as goal

-- what holds of those that are left is what holds of all
abbrev pub invariant-members : goal.invariant-members
invariant-members g l =
    list_any (λ x. not (g.W.FactView.facts_of l.view x).assigned) (drop l.member-index l.points)
    ≡ list_any (λ x. not (g.W.FactView.facts_of l.view x).assigned) l.points
