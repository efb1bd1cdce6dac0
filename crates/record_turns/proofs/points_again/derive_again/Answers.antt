use Rattle.std.proofs.Common.{◌∙◌, arith}
use Rattle.std.proofs.lemmas.Result.{err_from_is_err_and}
use Rattle.dependency_map.specs.Maps.{asked_at}
use Rattle.record_table.specs.Records.{record_next, record_now}
use Rattle.record_turns.proofs.AgainSteps.{again_to, anew_to, stops}
use Rattle.record_turns.proofs.points_again.derive_again.Goals as goal

pub returns-in_err-derive_point_again-clause-stop : goal.returns-in_err-derive_point_again-clause-stop
returns-in_err-derive_point_again-clause-stop g c =
    let p = err_from_is_err_and c.from_residual.result c.from_residual.ensures.1 in
    rw (p.1, p.2) (stops (g.W.FactView.facts_of c.args.view.now) c.args.points.now c.points.c-index c.c-item.result _ (omega (arith, c.points-test.true)) c.c-item.is c.points.invariant.again.has c.in_err-derive_point_again.ensures.stop)

pub points-preserved : goal.points-preserved
points-preserved g c = record {
  again = again_to (record_now c.args.records.now) (g.W.FactView.facts_of c.args.view.now) c.args.points.now c.points.c-index c.c-item.result c.points.changed c.derive_point_again.new.changed (record_next c.points.records) (record_next c.derive_point_again.new.records) (record_now c.points.records)
      (omega (arith, c.points-test.true)) c.c-item.is c.points.invariant.again c.points.invariant.kept c.in_ok-derive_point_again.ensures.has c.in_ok-derive_point_again.ensures.put;
  asks = anew_to (g.W.FactView.facts_of c.args.view.now) c.args.points.now c.points.c-index c.c-item.result (asked_at g.S.Store.next c.args.map.now) _ _ (omega (arith, c.points-test.true)) c.c-item.is
      c.points.invariant.asks c.in_ok-derive_point_again.ensures.asked;
  kept = λ d lt. c.derive_point_again.ensures.kept d lt ∙ c.points.invariant.kept d lt;
  now = λ d lt. c.derive_point_again.ensures.now d lt ∙ c.points.invariant.now d lt;
  steps = omega (arith, c.points.invariant.steps, c.derive_point_again.ensures.step);
}
