use Rattle.std.proofs.Common.{List, [], ◌∷◌, ◌++◌, subst, sym, ap, ◌∙◌, arith}
use Rattle.ucd_points.specs.Bounds.{Bounds}
use Rattle.ucdshop_look_core.specs.PointSpans.{IsLast}
use Rattle.ucdshop_look_core.proofs.PointSpanLemmas.{ends_before, goes_on}
use Rattle.ucdshop_look_core.proofs.spanning.next_span.Goals as goal

pub returns-then-last-number : goal.returns-then-last-number
returns-then-last-number c = λ n p rest last.
    subst (λ (s : Bounds). IsLast n p c.args.spans.now s rest) (sym (c.between.ensures ∙ ap (λ (s : Bounds). let grown : Bounds = record { lo = s.lo; hi = c.args.point } in grown) c.last-2.view_is)) (goes_on n p c.args.spans.now c.args.last c.args.point rest last (omega arith))

pub returns : goal.returns
returns c = λ n p rest last.
    subst (λ (xs : List Bounds). IsLast n p xs c.one.result rest) (sym c.in_ok-push.ensures.ok)
    (subst (λ (s : Bounds). IsLast n p (c.args.spans.now ++ c.args.last ∷ []) s rest) (sym c.one.ensures) (ends_before n p c.args.spans.now c.args.last c.args.point rest last (omega arith)))
