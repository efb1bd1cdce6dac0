use Rattle.std.proofs.Common.{sym, ◌∙◌, arith}
use Rattle.std.proofs.lemmas.Result.{IfOk-from_err}
use Rattle.ucd_points.specs.PlainProofs.{on_ok_holds}
use Rattle.edit_session.specs.Groups.{HasTouched}
use Rattle.edit_session.proofs.GroupLemmas.{all_done, goes_on, stops_at}
use Rattle.edit_session.proofs.TouchedLemmas.{then_touched}
use Rattle.edit_session.proofs.group.prepare_rows.Goals as goal

pub returns-then-is_err-clause-answer : goal.returns-then-is_err-clause-answer
returns-then-is_err-clause-answer c =
    stops_at c.prepare_op-told.result _ c.operations.release.prepared c.prepare_op-told.new.release.prepared c.operations.done c.args.group.now _ (omega (arith, c.operations-test.true)) c.index-group-done.is c.operations.invariant.left (sym c.is_err.ensures.value ∙ c.if-is_err.true) c.prepare_op-told.ensures.answer

pub returns-then-is_err-clause-touched : goal.returns-then-is_err-clause-touched
returns-then-is_err-clause-touched c =
    IfOk-from_err c.prepare_op-told.result _ (sym c.is_err.ensures.value ∙ c.if-is_err.true)

pub operations-preserved : goal.operations-preserved
operations-preserved c = record {
  left = goes_on c.prepare_op-told.result _ c.operations.release.prepared c.prepare_op-told.new.release.prepared c.operations.done c.args.group.now _ (omega (arith, c.operations-test.true)) c.index-group-done.is c.operations.invariant.left (sym c.is_err.ensures.value ∙ c.if-is_err.false) c.prepare_op-told.ensures.answer;
  now = c.prepare_op-told.ensures.now ∙ c.operations.invariant.now;
  touched = then_touched c.args.release.now.prepared c.operations.release.prepared c.prepare_op-told.new.release.prepared c.args.touched.now c.operations.touched c.prepare_op-told.new.touched c.operations.invariant.touched
      (on_ok_holds c.prepare_op-told.result _ (sym c.is_err.ensures.value ∙ c.if-is_err.false) c.prepare_op-told.ensures.touched);
  within = omega (arith, c.operations-test.true);
}

pub returns-clause-answer : goal.returns-clause-answer
returns-clause-answer c = all_done _ c.operations.release.prepared c.operations.done c.args.group.now (omega (arith, c.operations-test.false)) c.operations.invariant.left
