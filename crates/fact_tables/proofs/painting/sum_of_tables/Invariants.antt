use Rattle.std.proofs.Common.{◌≡◌, ℕ, ◌+◌, ◌-◌, ◌<◌, ◌≤◌}
use Rattle.range_table.specs.RunTable.{values_now}
use Rattle.fact_tables.proofs.painting.sum_of_tables.Given as goal

-- the sums below `at` are prepared
abbrev pub invariant-stretches : goal.invariant-stretches
invariant-stretches g l = record {
  within : l.at ≤ 1114112;
  sums : (c : ℕ) → c < l.at → g.T.Table.next l.table c ≡ values_now l.a c + values_now l.b c;
}

abbrev pub decreases-stretches : goal.decreases-stretches
decreases-stretches g l = 1114112 - l.at
