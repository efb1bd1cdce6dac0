use Rattle.std.proofs.Common.{◌≡◌, ◌++◌}
use Rattle.source_rows.proofs.mapping.Mapping.copied.Given as goal

-- the code points so far
abbrev pub invariant-points : goal.invariant-points
invariant-points l = l.points.items ++ l.point-iterator ≡ l.fn.self
