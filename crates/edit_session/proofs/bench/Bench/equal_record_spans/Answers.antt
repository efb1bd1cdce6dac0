use Rattle.std.proofs.Common.{subst, sym, All}
use Rattle.record_table.specs.Records.{record_now}
use Rattle.ucd_model.specs.Cuts.{IsCut}
use Rattle.ucd_points.specs.Limits.{point_count}
use Rattle.edit_session.specs.Benches.{bench_record, EndsAlike}
use Rattle.edit_session.specs.FirstRecords.{SameRecords}
use Rattle.edit_session.specs.declared.derivation.Derivation.{Derivation}
use Rattle.edit_session.proofs.PieceLemmas.{by_records}
use Rattle.edit_session.proofs.bench.Bench.equal_record_spans.Goals as goal

pub returns-clause-cut : goal.returns-clause-cut
returns-clause-cut c =
    let R = bench_record c.self.inside.release in
    let records = subst (λ (b : Derivation). SameRecords (record_now b.records) R) (sym c.deref.ensures) c.self.invariant.now.records in
    rw (← c.self.view_is) (by_records (record_now c.deref.result.now.records) R c.pieces_of.result (λ Q pieces. IsCut Q 0 point_count pieces) records c.pieces_of.ensures.cut)

pub returns-clause-ends : goal.returns-clause-ends
returns-clause-ends c =
    let R = bench_record c.self.inside.release in
    let records = subst (λ (b : Derivation). SameRecords (record_now b.records) R) (sym c.deref.ensures) c.self.invariant.now.records in
    rw (← c.self.view_is) (by_records (record_now c.deref.result.now.records) R c.pieces_of.result (λ Q pieces. All (EndsAlike Q) pieces) records c.pieces_of.ensures.ends)
