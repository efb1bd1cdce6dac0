use Rattle.std.proofs.Common.{◌≡◌, ℕ, ◌+◌, ◌-◌, ◌<◌, ◌≤◌, cond, ◌&&◌, leb, ltb, Some}
use Rattle.range_table.specs.Values.{SameValues}
use Rattle.fact_tables.specs.Rest.{no_rest}
use Rattle.fact_tables.specs.RowTables.{AreBare, rest_in}
use Rattle.fact_tables.proofs.copying.put_rests_with.Given as goal

-- the points of the span below `at` have their rests next, and those from there to before `bare` have no more than a mapping
abbrev pub invariant-stretches : goal.invariant-stretches
invariant-stretches g l = record {
  from : l.fn.span.lo ≤ l.at;
  within : l.at ≤ l.fn.span.hi + 1;
  bare : AreBare l.from l.at l.bare;
  bound : l.bare ≤ 1114112;
  held : g.S.Store.held l.into l.none ≡ Some no_rest;
  now : SameValues (g.S.Store.now l.into) (g.S.Store.now l.initial.into);
  next : (c : ℕ) → c < 1114112 → g.S.Store.next l.into c ≡ cond (leb l.fn.span.lo c && ltb c l.at) (rest_in l.from c) (g.S.Store.next l.initial.into c);
}

abbrev pub decreases-stretches : goal.decreases-stretches
decreases-stretches g l = l.end + 1 - l.at
