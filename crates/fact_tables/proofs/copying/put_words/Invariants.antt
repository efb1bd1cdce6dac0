use Rattle.std.proofs.Common.{◌≡◌, ℕ, ◌+◌, ◌-◌, ◌<◌, ◌≤◌, cond, ◌&&◌, leb, ltb}
use Rattle.range_table.specs.RunTable.{values_now}
use Rattle.range_table.specs.Values.{SameValues}
use Rattle.fact_tables.proofs.copying.put_words.Given as goal

-- the points of the span below `at` have their values next
abbrev pub invariant-stretches : goal.invariant-stretches
invariant-stretches g l = record {
  from : l.fn.span.lo ≤ l.at;
  within : l.at ≤ l.fn.span.hi + 1;
  now : SameValues (g.T.Table.now l.into) (g.T.Table.now l.initial.into);
  next : (c : ℕ) → c < 1114112 → g.T.Table.next l.into c ≡ cond (leb l.fn.span.lo c && ltb c l.at) (values_now l.from c) (g.T.Table.next l.initial.into c);
}

abbrev pub decreases-stretches : goal.decreases-stretches
decreases-stretches g l = l.end + 1 - l.at
