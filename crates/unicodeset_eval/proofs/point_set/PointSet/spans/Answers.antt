use Rattle.std.proofs.Common.{ap, ◌∙◌}
use Rattle.ucd_points.specs.Limits.{point_count}
use Rattle.unicodeset_eval.specs.Edges.{has}
use Rattle.unicodeset_eval.specs.Members.{member_spans}
use Rattle.unicodeset_eval.specs.Pieces.{pieces_are}
use Rattle.unicodeset_eval.proofs.point_set.PointSet.spans.Goals as goal

pub returns : goal.returns
returns c =
    let is = pieces_are point_count c.self.inside.has_zero c.self.inside.edges.items c.self.invariant ∙ ap (λ s. member_spans point_count (has s)) c.self.view_is in
    rw (c.as_slice.ensures.value, is) at c.spans_of.ensures
