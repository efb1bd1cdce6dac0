use Rattle.std.proofs.Common.{◌≡◌, ◌++◌, drop}
use Rattle.ucd_points.specs.Limits.{point_count}
use Rattle.unicodeset_eval.specs.Pieces.{pieces}
use Rattle.unicodeset_eval.proofs.splitting.spans_of.Given as goal

-- the spans so far, and those of what is left, are those of the whole
abbrev pub invariant-edges : goal.invariant-edges
invariant-edges l = l.spans ++ pieces point_count l.inside l.from (drop l.edge-index l.edges) ≡ pieces point_count l.has_zero 0 l.edges
