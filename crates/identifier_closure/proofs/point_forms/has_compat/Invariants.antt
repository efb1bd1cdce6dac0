use Rattle.std.proofs.Common.{◌≡◌, drop}
use Rattle.std.specs.List.{list_any}
use Rattle.ucd_facts.specs.Expansion.{is_compat}
use Rattle.identifier_closure.proofs.point_forms.has_compat.Given as goal

-- what holds of those that are left is what holds of all
abbrev pub invariant-members : goal.invariant-members
invariant-members g l =
    list_any (λ x. is_compat (g.W.FactView.facts_of l.view x).kind) (drop l.member-index l.points)
    ≡ list_any (λ x. is_compat (g.W.FactView.facts_of l.view x).kind) l.points
