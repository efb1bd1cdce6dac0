use Rattle.std.proofs.Common.{drop}
use Rattle.ucd_points.specs.Limits.{point_count}
use Rattle.ucd_model.specs.Sameness.{is_in}
use Rattle.ucdshop_look_core.specs.PointSpans.{IsLast}
use Rattle.ucdshop_look_core.proofs.spanning.point_spans.Given as goal

-- the last span goes up to the points that are left
abbrev pub invariant-points : goal.invariant-points
invariant-points l = IsLast point_count (is_in l.points) l.spans l.last (drop l.point-index l.behind)
