use Rattle.std.proofs.Common.{ℕ, ap}
use Rattle.ucd_model.specs.Records.{kept_record}
use Rattle.ucd_model.specs.declared.records.Record.{Record as KeptRecord}
use Rattle.record_table.proofs.table.RecordTable.copied.Goals as goal

pub returns-clause-now : goal.returns-clause-now
returns-clause-now c point lt = ap (λ (R : ℕ → KeptRecord). kept_record (R point)) c.in_ok-records.ensures.now

pub returns-clause-next : goal.returns-clause-next
returns-clause-next c point lt = ap (λ (R : ℕ → KeptRecord). kept_record (R point)) c.in_ok-records.ensures.next
