use Rattle.std.proofs.Common.{◌≡◌, ℕ, ◌∙◌, arith}
use Rattle.fact_tables.specs.FactTables.{tables_facts}
use Rattle.paged_table.specs.Paged.{values_now}
use Rattle.ucd_facts.specs.Facts.{Facts}
use Rattle.record_table.specs.Records.{record_next, record_now}
use Rattle.edit_session.proofs.FirstSteps.{all_count, all_records, all_valid}
use Rattle.edit_session.proofs.first_points.derive_all.Goals as goal

pub returns-clause-valid : goal.returns-clause-valid
returns-clause-valid g c =
    let F : ℕ → Facts = tables_facts values_now c.args.tables.now in
    all_valid (record_next c.derive_behind.new.table) 1114112 F all_count c.in_ok-derive_behind.ensures.records

pub returns-clause-records : goal.returns-clause-records
returns-clause-records g c =
    let F : ℕ → Facts = tables_facts values_now c.args.tables.now in
    all_records (record_next c.derive_behind.new.table) (record_now c.shrink_to_fit.new.self) 1114112 F all_count c.in_ok-derive_behind.ensures.records
    (λ k below. c.shrink_to_fit.ensures.now k below ∙ c.commit.ensures.committed k below)

pub returns-in_err-table-clause-steps : goal.returns-in_err-table-clause-steps
returns-in_err-table-clause-steps g c = omega (arith, all_count, c.table_of_first_record.ensures.step)

pub returns-in_err-derive_behind-clause-steps : goal.returns-in_err-derive_behind-clause-steps
returns-in_err-derive_behind-clause-steps g c = omega (arith, all_count, c.table_of_first_record.ensures.step, c.derive_behind.ensures.steps)

pub returns-clause-steps : goal.returns-clause-steps
returns-clause-steps g c = omega (arith, all_count, c.table_of_first_record.ensures.step, c.derive_behind.ensures.steps)
