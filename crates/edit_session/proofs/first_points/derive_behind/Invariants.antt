use Rattle.std.proofs.Common.{◌+◌, ◌-◌, ◌≤◌}
use Rattle.fact_tables.specs.FactTables.{tables_facts}
use Rattle.paged_table.specs.Paged.{values_now}
use Rattle.record_table.specs.Records.{record_next}
use Rattle.edit_session.specs.FirstRecords.{DerivedBelow, IsRecordSpan}
use Rattle.edit_session.proofs.first_points.derive_behind.Given as goal

-- the points before the run have the records that are derived of them next, in a step each at most
abbrev pub invariant-runs : goal.invariant-runs
invariant-runs g l = record {
  below : DerivedBelow (record_next l.table) l.run.span.lo (tables_facts values_now l.tables);
  run : IsRecordSpan (tables_facts values_now l.tables) l.run;
  steps : l.steps ≤ l.fn.steps + l.run.span.hi;
}

abbrev pub decreases-runs : goal.decreases-runs
decreases-runs g l = 1114112 - l.run.span.hi
