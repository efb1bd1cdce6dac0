use Rattle.std.proofs.Common.{◌≡◌, ◌-◌, ◌≤◌, ℕ}
use Rattle.record_table.specs.Records.{record_now}
use Rattle.record_table.proofs.table.RecordTable.last_alike.Given as goal

-- the code points so far have the record
abbrev pub invariant-stretches : goal.invariant-stretches
invariant-stretches l = record {
  from : l.fn.c ≤ l.last;
  same : (d : ℕ) → l.fn.c ≤ d → d ≤ l.last → record_now l.self d ≡ record_now l.self l.fn.c;
}

abbrev pub decreases-stretches : goal.decreases-stretches
decreases-stretches l = 1114112 - l.last
