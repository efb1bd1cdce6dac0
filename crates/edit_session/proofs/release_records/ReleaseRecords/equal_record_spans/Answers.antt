use Rattle.std.specs.List.{All}
use Rattle.record_table.specs.Records.{record_now}
use Rattle.ucd_model.specs.Cuts.{IsCut}
use Rattle.ucd_points.specs.Limits.{point_count}
use Rattle.edit_session.specs.Benches.{bench_record, EndsAlike}
use Rattle.edit_session.proofs.PieceLemmas.{by_records}
use Rattle.edit_session.proofs.release_records.ReleaseRecords.equal_record_spans.Goals as goal

pub returns-clause-cut : goal.returns-clause-cut
returns-clause-cut c =
    rw (← c.self.view_is) (by_records (record_now c.self.inside.records) (bench_record c.self.inside.release) c.pieces_of.result (λ Q pieces. IsCut Q 0 point_count pieces) c.self.invariant c.pieces_of.ensures.cut)

pub returns-clause-ends : goal.returns-clause-ends
returns-clause-ends c =
    rw (← c.self.view_is) (by_records (record_now c.self.inside.records) (bench_record c.self.inside.release) c.pieces_of.result (λ Q pieces. All (EndsAlike Q) pieces) c.self.invariant c.pieces_of.ensures.ends)
