use Rattle.std.proofs.Common.{◌≡◌, ℕ, ◌+◌, ◌-◌, ◌%◌, ◌≤◌, ◌<◌, true}
use Rattle.number_sets.specs.Keys.{has}
use Rattle.fact_tables.specs.Changes.{Grows, ReachesOwn}
use Rattle.fact_tables.specs.FactTables.{facts_at}
use Rattle.fact_tables.specs.Index.{first_key}
use Rattle.fact_tables.specs.declared.now_or_next.NowOrNext.TheVariants.{Now, Next}
use Rattle.fact_tables.proofs.fact_tables.FactTables.put_pairs_listed_under.Given as goal

-- the code points that are listed under the keys below `from` are gone through
abbrev pub invariant-listed : goal.invariant-listed
invariant-listed g l = record {
  from : first_key l.s ≤ l.from;
  within : l.from ≤ first_key l.s + 4398046511104;
  grows : Grows l.initial.pairs.items l.pairs.items;
  own : (k : ℕ) → first_key l.s ≤ k → k < l.from → has l.self.index.pairs k ≡ true → ReachesOwn (facts_at Now l.self) (facts_at Next l.self) l.pairs.items (k % 2097152);
}

abbrev pub decreases-listed : goal.decreases-listed
decreases-listed g l = first_key l.s + 4398046511104 - l.from
