use Rattle.std.proofs.Common.{◌≡◌, ◌++◌, ◌+◌, length}
use Rattle.unicodeset_eval.specs.Edges.{holds}
use Rattle.unicodeset_eval.specs.Merges.{merge}
use Rattle.unicodeset_eval.proofs.merging.merge.Given as goal

-- the edges so far, and those of what is left, are those of the whole
abbrev pub invariant-edges : goal.invariant-edges
invariant-edges l = l.edges.items ++ merge (holds l.join) l.a l.left l.b l.right ≡ merge (holds l.join) l.first_starts l.first l.second_starts l.second

abbrev pub decreases-edges : goal.decreases-edges
decreases-edges l = length l.left + length l.right
