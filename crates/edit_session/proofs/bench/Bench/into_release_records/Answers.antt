use Rattle.std.proofs.Common.{subst, sym}
use Rattle.record_table.specs.Records.{record_now}
use Rattle.edit_session.specs.Benches.{bench_record}
use Rattle.edit_session.specs.FirstRecords.{SameRecords}
use Rattle.edit_session.specs.declared.derivation.Derivation.{Derivation}
use Rattle.edit_session.proofs.bench.Bench.into_release_records.Goals as goal

pub of-requires : goal.of-requires
of-requires c =
    rw c.into_records.ensures (subst (λ (b : Derivation). SameRecords (record_now b.records) (bench_record c.self.inside.release)) (sym c.into_inner.ensures) c.self.invariant.now.records)
