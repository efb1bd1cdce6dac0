use Rattle.std.proofs.Common.{◌≡◌, ◌-◌, ◌++◌, drop, flat_map}
use Rattle.query_laws.specs.Questions.{tree, row_queries}
use Rattle.point_queries.proofs.trees.+put_tree.Given as goal

abbrev pub decreases-put_tree : goal.decreases-put_tree
decreases-put_tree g l = l.levels

-- the trees of the members that are left, behind what is asked so far, are what all gives
abbrev pub invariant-members : goal.invariant-members
invariant-members g l = l.asked.items ++ row_queries (flat_map (tree (g.W.FactView.facts_of l.view) l.compat (l.levels - 1)) (drop l.member-index l.mapping))
    ≡ l.initial.asked.items ++ row_queries (flat_map (tree (g.W.FactView.facts_of l.view) l.compat (l.levels - 1)) l.mapping)
