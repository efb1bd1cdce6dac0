use Rattle.std.proofs.Common.{◌≡◌, ◌∙◌, [], ◌∷◌, length, get_or, subst, ap, arith, length-append}
use Rattle.range_table.specs.Values.{SameValues, with_span}
use Rattle.ucd_points.specs.Bounds.{Bounds}
use Rattle.ucd_model.specs.Records.{kept_record}
use Rattle.record_table.specs.Records.{record_next, record_now}
use Rattle.record_table.proofs.RecordSteps.{written_to}
use Rattle.record_table.proofs.table.RecordTable.prepare_all.Goals as goal

pub records-preserved : goal.records-preserved
records-preserved c =
    let one = ap length c.in-Some.ensures.steps.0 in
    let left = c.records.invariant.left in
    let at : c.records.at ≡ length c.records.yielded = c.records.invariant.at in
    let more = length-append c.records.yielded (c.in-Some.record ∷ []) in
    record {
      at = omega (arith, at, more);
      left = omega (arith, left, one);
      now = λ k lt. c.prepare_span.ensures.now k lt ∙ c.records.invariant.now k lt;
      next =
          written_to c.args.points.now c.records.yielded c.index-points-at.result c.in-Some.record (record_now c.args.self.now) (record_next c.records.self) (record_next c.prepare_span.new.self)
          (omega (arith, at, left, one)) (c.index-points-at.is ∙ ap (λ k. get_or c.args.points.now k c.index-points-at.result) at) c.records.invariant.next
          (subst (λ (s : Bounds). SameValues (record_next c.prepare_span.new.self) (with_span (record_next c.records.self) s.lo s.hi (kept_record c.in-Some.record))) c.one.ensures c.in_ok-prepare_span.ensures.ok);
    }
