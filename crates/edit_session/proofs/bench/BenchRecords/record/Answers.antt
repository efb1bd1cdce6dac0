use Rattle.std.proofs.Common.{sym, subst, ◌∙◌}
use Rattle.record_table.specs.Records.{record_now}
use Rattle.ucd_model.specs.Records.{record_at}
use Rattle.edit_session.specs.Benches.{bench_facts}
use Rattle.edit_session.specs.FirstRecords.{SameRecords}
use Rattle.edit_session.specs.declared.derivation.Derivation.{Derivation}
use Rattle.edit_session.proofs.FirstSteps.{is_point}
use Rattle.edit_session.proofs.bench.BenchRecords.record.Goals as goal

pub returns : goal.returns
returns c =
    let records = subst (λ (b : Derivation). SameRecords (record_now b.records) (record_at (bench_facts c.self.inside.release))) (sym c.deref.ensures) c.self.invariant.now.records in
    rw (← c.self.view_is) (c.record.ensures ∙ records c.args.c (is_point c.args.c c.number-number.result c.number-number.ensures.value c.number-number.ensures.bound))
