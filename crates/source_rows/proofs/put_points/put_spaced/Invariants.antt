use Rattle.std.proofs.Common.{◌≡◌, ◌++◌, take}
use Rattle.ucd_facts.specs.RowTexts.{spaced}
use Rattle.source_rows.proofs.put_points.put_spaced.Given as goal

-- what stood there, and the code points so far
abbrev pub invariant-loop-point : goal.invariant-loop-point
invariant-loop-point l = l.into ≡ l.fn.into ++ spaced (take l.point-index l.points)
