use Rattle.std.proofs.Common.{◌≡◌, ℕ, ◌<◌, subst, arith}
use Rattle.fact_tables.specs.FactTables.{tables_facts}
use Rattle.paged_table.specs.Paged.{values_now}
use Rattle.record_table.specs.Records.{record_next}
use Rattle.ucd_facts.specs.Facts.{Facts}
use Rattle.edit_session.specs.FirstRecords.{StandsBehind}
use Rattle.edit_session.proofs.FirstSteps.{run_valid}
use Rattle.edit_session.proofs.first_points.derive_behind.Goals as goal

pub derive_run-requires : goal.derive_run-requires
derive_run-requires g c = λ d lt. (record_next c.args.table.now d, c.requires d (subst (λ (n : ℕ). d < n) c.at.ensures lt))

pub derive_run-requires-in-runs : goal.derive_run-requires-in-runs
derive_run-requires-in-runs g c =
    run_valid (record_next c.runs.table) (tables_facts values_now c.args.tables.now) c.runs.run c.at-in-runs.result c.runs.invariant.run c.runs.invariant.below
    (omega (arith, c.at-in-runs.ensures, c.last-in-runs.ensures.value))

pub runs-preserved : goal.runs-preserved
runs-preserved g c =
    let F : ℕ → Facts = tables_facts values_now c.args.tables.now in
    let left : StandsBehind F (record_next c.put_or_join.new.table) c.in_ok-run-2.run' c.in_ok-next.next.span.hi = c.in_ok-run-2.ensures F c.runs.invariant.run c.in_ok-next.ensures.run c.runs.invariant.below in
    record {
      below = left.below;
      run = left.run;
      steps = omega (arith, left.ends, c.in_ok-next.ensures.run.ordered, c.in_ok-next.ensures.first, c.at-in-runs.ensures, c.last-in-runs.ensures.value, c.derive_run-in-runs.ensures.step, c.runs.invariant.steps);
    }

pub runs-smaller : goal.runs-smaller
runs-smaller g c =
    let F : ℕ → Facts = tables_facts values_now c.args.tables.now in
    let left : StandsBehind F (record_next c.put_or_join.new.table) c.in_ok-run-2.run' c.in_ok-next.next.span.hi = c.in_ok-run-2.ensures F c.runs.invariant.run c.in_ok-next.ensures.run c.runs.invariant.below in
    omega (arith, left.ends, left.run.inside, c.in_ok-next.ensures.run.ordered, c.in_ok-next.ensures.first, c.at-in-runs.ensures, c.last-in-runs.ensures.value)
