use Rattle.std.proofs.Common.{◌+◌, ◌<◌, sym, subst, ◌∙◌, arith}
use Rattle.range_table.specs.Values.{point_count-is}
use Rattle.record_table.specs.Records.{record_now}
use Rattle.ucd_points.specs.Limits.{point_count}
use Rattle.ucd_model.specs.Records.{record_at}
use Rattle.edit_session.specs.Benches.{bench_facts}
use Rattle.edit_session.specs.FirstRecords.{SameRecords}
use Rattle.edit_session.specs.declared.derivation.Derivation.{Derivation}
use Rattle.edit_session.proofs.bench.Bench.last_alike.Goals as goal

pub returns-clause-same : goal.returns-clause-same
returns-clause-same c = λ d from to.
    let records = subst (λ (b : Derivation). SameRecords (record_now b.records) (record_at (bench_facts c.self.inside.release))) (sym c.deref.ensures) c.self.invariant.now.records in
    let first : c.args.c < point_count = omega (arith, c.last_alike.ensures.inside, point_count-is, c.last_alike.ensures.from) in
    let here : d < point_count = omega (arith, c.last_alike.ensures.inside, point_count-is, to) in
    rw (← c.self.view_is) (sym (records d here) ∙ c.last_alike.ensures.same d from to ∙ records c.args.c first)

pub returns-clause-ends : goal.returns-clause-ends
returns-clause-ends c = rw (← c.self.view_is)
    (λ less same.
    let records = subst (λ (b : Derivation). SameRecords (record_now b.records) (record_at (bench_facts c.self.inside.release))) (sym c.deref.ensures) c.self.invariant.now.records in
    let first : c.args.c < point_count = omega (arith, c.last_alike.ensures.inside, point_count-is, c.last_alike.ensures.from) in
    c.last_alike.ensures.ends (omega (arith, less, point_count-is)) (records (c.last_alike.result + 1) less ∙ same ∙ sym (records c.args.c first)))
