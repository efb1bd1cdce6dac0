use Rattle.std.proofs.Common.{◌≡◌, ℕ, ◌<◌, Ok, refl, ◌∙◌, arith}
use Rattle.fact_tables.specs.FactTables.{tables_facts}
use Rattle.paged_table.specs.Paged.{values_now}
use Rattle.ucd_facts.specs.Facts.{Facts}
use Rattle.ucd_model.specs.Records.{derived, kept_record}
use Rattle.edit_session.proofs.FirstSteps.{run_is, stops}
use Rattle.edit_session.proofs.first_points.derive_run.Goals as goal

pub returns-in-Ok-clause-run : goal.returns-in-Ok-clause-run
returns-in-Ok-clause-run g c =
    let F : ℕ → Facts = tables_facts values_now c.args.tables.now in
    let here : derived F c.args.c ≡ Ok (kept_record c.in-Ok.value) = c.in-Ok.ensures.found in
    run_is F c.args.c c.end_of_alike-end.result (kept_record c.in-Ok.value) (record { span = c.span_up_to.result; value = c.in-Ok.value }) c.span_up_to.ensures refl c.end_of_alike-end.ensures.from c.end_of_alike-end.ensures.inside
    (λ k from lt. c.end_of_alike-end.ensures.alike k from lt ∙ here)

pub returns-in-Err-clause-invalid : goal.returns-in-Err-clause-invalid
returns-in-Err-clause-invalid g c =
    let F : ℕ → Facts = tables_facts values_now c.args.tables.now in
    let inside : c.args.c < 1114112 = omega (arith, c.number-number.ensures.value, c.number-number.ensures.bound) in
    stops c.args.c F c.in-Err.stop inside c.requires c.in-Err.ensures.found
