use Rattle.std.proofs.Common.{◌≡◌, ℕ, ◌+◌, ◌<◌, refl, ap, subst}
use Rattle.record_table.specs.Records.{record_next}
use Rattle.ucd_points.specs.Bounds.{Bounds}
use Rattle.edit_session.proofs.FirstSteps.{run_joined, run_put}
use Rattle.edit_session.proofs.first_points.put_or_join.Goals as goal

pub returns-then-has_one_record : goal.returns-then-has_one_record
returns-then-has_one_record c F run next below =
    let lo = ap (λ (s : Bounds). s.lo) c.span_of_both.ensures in
    let hi = ap (λ (s : Bounds). s.hi) c.span_of_both.ensures in
    record {
      below = λ d lt. below d (subst (λ (n : ℕ). d < n) lo lt);
      run = run_joined F c.args.run c.args.next (record { span = c.span_of_both.result; value = c.args.run.value }) run next c.requires (c.has_one_record.ensures c.if-has_one_record.true) lo hi refl;
      ends = hi;
    }

pub returns : goal.returns
returns c F run next below = record {
  below = λ d lt. run_put (record_next c.args.table.now) (record_next c.prepare_span.new.self) F c.args.run run below c.in_ok-prepare_span.ensures.ok d (subst (λ (n : ℕ). d < n) c.requires lt);
  run = next;
  ends = refl;
}
