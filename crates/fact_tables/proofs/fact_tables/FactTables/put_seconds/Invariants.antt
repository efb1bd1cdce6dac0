use Rattle.std.proofs.Common.{◌≡◌, ℕ, true, take}
use Rattle.ucd_facts.specs.declared.query.Query.TheVariants.{Second}
use Rattle.fact_tables.specs.Changes.{Gathers, IsTold, is_among}
use Rattle.fact_tables.specs.FactTables.{facts_at}
use Rattle.fact_tables.specs.declared.now_or_next.NowOrNext.TheVariants.{Now, Next}
use Rattle.fact_tables.proofs.fact_tables.FactTables.put_seconds.Given as goal

-- the questions on the second members before this one are told
abbrev pub invariant-seconds : goal.invariant-seconds
invariant-seconds g l = record {
  gathers : Gathers (facts_at Now l.self) (facts_at Next l.self) l.initial.queries.items l.queries.items;
  told : (y : ℕ) → is_among (take l.second-index l.seconds) y ≡ true → IsTold (facts_at Now l.self) (facts_at Next l.self) l.queries.items (Second y);
}
