use Rattle.std.proofs.Common.{◌≡◌, ◌-◌, drop}
use Rattle.std.specs.List.{list_any}
use Rattle.point_queries.specs.Compat.{has_compat}
use Rattle.point_queries.proofs.trees.+has_compat_within.Given as goal

abbrev pub decreases-has_compat_within : goal.decreases-has_compat_within
decreases-has_compat_within g l = l.levels

-- what holds of those that are left is what holds of all
abbrev pub invariant-members : goal.invariant-members
invariant-members g l = list_any (has_compat (g.W.FactView.facts_of l.view) (l.levels - 1)) (drop l.member-index l.mapping) ≡ list_any (has_compat (g.W.FactView.facts_of l.view) (l.levels - 1)) l.mapping
