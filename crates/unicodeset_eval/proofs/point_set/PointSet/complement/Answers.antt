use Rattle.std.proofs.Common.{not, ap, ◌∙◌}
use Rattle.unicodeset_eval.specs.Edges.{has}
use Rattle.unicodeset_eval.specs.EdgeLaws.{inside_not}
use Rattle.unicodeset_eval.proofs.point_set.PointSet.complement.Goals as goal

pub returns : goal.returns
returns c = λ x. inside_not c.self.inside.has_zero c.self.inside.edges.items x ∙ ap (λ s. not (has s x)) c.self.view_is
