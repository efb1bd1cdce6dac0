use Rattle.std.proofs.Common.{◌≡◌, ℕ, true, take}
use Rattle.ucd_facts.specs.declared.query.Query.TheVariants.{Pair}
use Rattle.fact_tables.specs.Changes.{Gathers, IsTold, is_reached}
use Rattle.fact_tables.specs.FactTables.{facts_at}
use Rattle.fact_tables.specs.declared.now_or_next.NowOrNext.TheVariants.{Now, Next}
use Rattle.fact_tables.proofs.fact_tables.FactTables.put_pairs.Given as goal

-- the questions on the pairs before this one are told
abbrev pub invariant-pairs : goal.invariant-pairs
invariant-pairs g l = record {
  gathers : Gathers (facts_at Now l.self) (facts_at Next l.self) l.initial.queries.items l.queries.items;
  pairs : (s y : ℕ) → is_reached (take l.pair-index l.pairs) s y ≡ true → IsTold (facts_at Now l.self) (facts_at Next l.self) l.queries.items (Pair s y);
}
