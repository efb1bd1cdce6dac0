use Rattle.std.proofs.Common.{◌-◌, ◌≤◌}
use Rattle.fact_tables.specs.FactTables.{tables_facts}
use Rattle.mention_index.specs.Mentions.{puts}
use Rattle.paged_table.specs.Paged.{values_now}
use Rattle.edit_session.specs.Questions.{HasStepsBelow}
use Rattle.edit_session.proofs.mentions.mention_all.Given as goal

-- what the points so far mention is put
abbrev pub invariant-runs : goal.invariant-runs
invariant-runs l = record {
  put : HasStepsBelow (puts l.listing) l.number (tables_facts values_now l.tables);
  within : l.number ≤ l.count;
}

abbrev pub decreases-runs : goal.decreases-runs
decreases-runs l = l.count - l.number
