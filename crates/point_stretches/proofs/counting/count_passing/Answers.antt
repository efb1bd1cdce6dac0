use Rattle.std.proofs.Common.{◌≡◌, ℕ, true, false, sym, ap, ◌∙◌, arith, count_by}
use Rattle.std.specs.List.{range_with_len}
use Rattle.ucd_points.specs.Bounds.{Bounds}
use Rattle.ucd_points.specs.Limits.{point_count}
use Rattle.point_stretches.specs.Laws.{counted_turn}
use Rattle.point_stretches.proofs.counting.count_passing.Goals as goal

pub stretches-preserved-then-passes : goal.stretches-preserved-then-passes
stretches-preserved-then-passes g c =
    let next = c.in-Some.ensures.steps in
    let lo : c.span.inside.lo ≡ c.in-Some.span.lo = ap (λ (x : Bounds). x.lo) c.span.view_is in
    record {
      same = next.by_same ∙ c.stretches.invariant.same;
      few = omega (arith, c.stretches.invariant.few, next.begins, next.ordered, next.goes_on, c.last.ensures.value, c.first.ensures.value);
      counted = λ p tells gives.
          let first : p c.in-Some.span.lo ≡ true = ap p (sym lo) ∙ sym (gives c.span.inside.lo c.passes.result (omega (arith, lo, next.ordered, next.inside)) c.passes.ensures) ∙ c.if-passes.true in
          let more = counted_turn c.stretches.invariant.same next p true tells first in
          omega (arith, more, c.stretches.invariant.counted p tells gives, c.last.ensures.value, c.first.ensures.value);
    }

pub stretches-preserved : goal.stretches-preserved
stretches-preserved g c =
    let next = c.in-Some.ensures.steps in
    let lo : c.span.inside.lo ≡ c.in-Some.span.lo = ap (λ (x : Bounds). x.lo) c.span.view_is in
    record {
      same = next.by_same ∙ c.stretches.invariant.same;
      few = omega (arith, c.stretches.invariant.few, next.begins, next.ordered, next.goes_on);
      counted = λ p tells gives.
          let first : p c.in-Some.span.lo ≡ false = ap p (sym lo) ∙ sym (gives c.span.inside.lo c.passes.result (omega (arith, lo, next.ordered, next.inside)) c.passes.ensures) ∙ c.if-passes.false in
          let more = counted_turn c.stretches.invariant.same next p false tells first in
          omega (arith, more, c.stretches.invariant.counted p tells gives);
    }

pub returns : goal.returns
unfolding point_count
returns g c = λ p tells gives. c.stretches.invariant.counted p tells gives ∙ ap (λ (n : ℕ). count_by p (range_with_len 0 n)) c.in-None.ensures.steps.0
