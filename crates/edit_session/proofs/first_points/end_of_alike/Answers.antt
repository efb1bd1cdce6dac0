use Rattle.std.proofs.Common.{◌≡◌, ℕ, ◌+◌, ◌≤◌, refl, ap, arith}
use Rattle.fact_tables.specs.FactTables.{tables_facts}
use Rattle.paged_table.specs.Paged.{values_now}
use Rattle.ucd_facts.specs.Facts.{Facts}
use Rattle.ucd_model.specs.Records.{derived}
use Rattle.edit_session.proofs.FirstSteps.{uniform_run}
use Rattle.edit_session.proofs.first_points.end_of_alike.Goals as goal

pub returns-in-Some-clause-alike : goal.returns-in-Some-clause-alike
returns-in-Some-clause-alike c = λ d from lt.
    let F : ℕ → Facts = tables_facts values_now c.args.tables.now in
    let within : c.min.result ≤ c.in-Some.last + 1 = omega (arith, c.min.ensures, c.number.ensures.value) in
    let below : c.min.result ≤ c.end_of_visible_format_run.result = omega (arith, c.min.ensures) in
    uniform_run F c.args.c c.in-Some.last c.end_of_visible_format_run.result c.min.result d (c.in-Some.ensures.plain.0 refl) c.in-Some.ensures.stretch c.end_of_visible_format_run.ensures.same within below from lt

pub returns-in-None-clause-alike : goal.returns-in-None-clause-alike
returns-in-None-clause-alike c = λ d from lt.
    let F : ℕ → Facts = tables_facts values_now c.args.tables.now in
    let same : d ≡ c.args.c = omega (arith, from, lt, c.number-in-None.ensures.value) in
    ap (derived F) same
