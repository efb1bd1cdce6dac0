use Rattle.std.proofs.Common.{◌≤◌, List, subst, sym, ◌∙◌}
use Rattle.ucd_points.specs.Bounds.{Bounds}
use Rattle.ucd_points.specs.Limits.{point_count}
use Rattle.set_answers.specs.SetTexts.{members_in}
use Rattle.ucdshop_look_core.proofs.OrderLemmas.{few_members}
use Rattle.ucdshop_look_core.proofs.changing.put_spans.Goals as goal

pub put_members-requires : goal.put_members-requires
put_members-requires c = subst (λ (spans : List Bounds). members_in spans ≤ point_count) (sym (c.as_slice.ensures ∙ c.in_ok-spans.ensures)) (few_members c.args.points.now)
