use Rattle.std.proofs.Common.{◌≡◌, ◌++◌, drop, flat_map}
use Rattle.query_laws.specs.Questions.{whole_tree, row_queries}
use Rattle.point_queries.proofs.trees.put_trees.Given as goal

-- the trees that are left, behind those so far, are what all gives
abbrev pub invariant-points : goal.invariant-points
invariant-points g l = l.asked.items ++ row_queries (flat_map (whole_tree (g.W.FactView.facts_of l.view) l.compat) (drop l.c-index l.points))
    ≡ l.initial.asked.items ++ row_queries (flat_map (whole_tree (g.W.FactView.facts_of l.view) l.compat) l.points)
