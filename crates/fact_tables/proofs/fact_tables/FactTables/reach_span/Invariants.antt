use Rattle.std.proofs.Common.{ℕ, ◌+◌, ◌-◌, ◌≤◌, ◌<◌}
use Rattle.fact_tables.specs.Changes.{Gathers, Grows, IsDone}
use Rattle.fact_tables.specs.FactTables.{facts_at}
use Rattle.fact_tables.specs.declared.now_or_next.NowOrNext.TheVariants.{Now, Next}
use Rattle.fact_tables.proofs.fact_tables.FactTables.reach_span.Given as goal

-- the points of the span below `at` are done
abbrev pub invariant-stretches : goal.invariant-stretches
invariant-stretches g l = record {
  queries : Gathers (facts_at Now l.self) (facts_at Next l.self) l.initial.reached.queries.items l.reached.queries.items;
  pairs : Grows l.initial.reached.pairs.items l.reached.pairs.items;
  done : (c : ℕ) → l.fn.span.lo ≤ c → c < l.at → IsDone l.self.index (facts_at Now l.self) (facts_at Next l.self) l.reached c;
}

abbrev pub decreases-stretches : goal.decreases-stretches
decreases-stretches g l = l.end + 1 - l.at
