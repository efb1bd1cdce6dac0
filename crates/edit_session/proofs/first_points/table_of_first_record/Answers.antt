use Rattle.std.proofs.Common.{◌≡◌, ℕ, Ok, Err, sym, ap, subst, ◌∙◌}
use Rattle.fact_tables.specs.FactTables.{tables_facts}
use Rattle.paged_table.specs.Paged.{values_now}
use Rattle.record_table.specs.Records.{record_next}
use Rattle.ucd_facts.specs.Facts.{Facts}
use Rattle.ucd_model.specs.Records.{derived, kept_record}
use Rattle.edit_session.specs.FirstRecords.{IsFound}
use Rattle.edit_session.proofs.FirstSteps.{first_below, stops_first}
use Rattle.edit_session.proofs.first_points.table_of_first_record.Goals as goal

pub returns-in_ok-table-in-Ok-clause-records : goal.returns-in_ok-table-in-Ok-clause-records
returns-in_ok-table-in-Ok-clause-records g c =
    let F : ℕ → Facts = tables_facts values_now c.args.tables.now in
    let first : c.at.result ≡ 0 = c.at.ensures in
    let found : derived F c.at.result ≡ Ok (kept_record c.in-Ok.value) = c.in-Ok.ensures.found in
    first_below (record_next c.in_ok-table-in-Ok.table) F (kept_record c.in-Ok.value) (ap (derived F) (sym first) ∙ found) c.in_ok-table-in-Ok.ensures.next

pub returns-in-Err-clause-invalid : goal.returns-in-Err-clause-invalid
returns-in-Err-clause-invalid g c =
    let F : ℕ → Facts = tables_facts values_now c.args.tables.now in
    let first : c.at.result ≡ 0 = c.at.ensures in
    stops_first F c.in-Err.stop (subst (λ n. IsFound F n (Err c.in-Err.stop)) first c.in-Err.ensures.found)
