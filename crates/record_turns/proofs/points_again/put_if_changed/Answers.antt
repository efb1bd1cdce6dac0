use Rattle.std.proofs.Common.{◌<◌, refl, subst}
use Rattle.range_table.specs.Values.{SameValues, with_span}
use Rattle.ucd_points.specs.Bounds.{Bounds}
use Rattle.ucd_model.specs.Records.{kept_record}
use Rattle.record_table.specs.Records.{record_next, record_now}
use Rattle.record_turns.proofs.AgainSteps.{put_none, put_one}
use Rattle.record_turns.proofs.points_again.put_if_changed.Goals as goal

pub returns-in_ok-prepare_span-clause-put : goal.returns-in_ok-prepare_span-clause-put
returns-in_ok-prepare_span-clause-put c =
    let inside : c.args.c < 1114112 = rw c.number-number.ensures.value at c.number-number.ensures.bound in
    put_one (record_now c.args.records.now) c.args.c c.args.value _ c.args.changed.now c.push.new.self (record_next c.args.records.now) (record_next c.prepare_span.new.self) c.is_same.result inside c.record.ensures c.is_same.ensures.told
    c.if-not-is_same.true c.in_ok-push.ensures.ok
    (subst (λ (s : Bounds). SameValues (record_next c.prepare_span.new.self) (with_span (record_next c.args.records.now) s.lo s.hi (kept_record c.args.value))) c.one.ensures c.in_ok-prepare_span.ensures.ok)

pub returns-else-not-is_same-clause-put : goal.returns-else-not-is_same-clause-put
returns-else-not-is_same-clause-put c =
    let inside : c.args.c < 1114112 = rw c.number-number.ensures.value at c.number-number.ensures.bound in
    put_none (record_now c.args.records.now) c.args.c c.args.value _ c.args.changed.now c.args.changed.now (record_next c.args.records.now) (record_next c.args.records.now) c.is_same.result inside c.record.ensures c.is_same.ensures.told
    c.if-not-is_same.false refl (λ d lt. refl)
