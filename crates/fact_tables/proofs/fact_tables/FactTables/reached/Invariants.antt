use Rattle.std.proofs.Common.{◌≡◌, ℕ, true, take}
use Rattle.std.specs.List.{list_any}
use Rattle.ucd_facts.specs.Facts.{within}
use Rattle.fact_tables.specs.Changes.{IsDone, IsOnlyChanged}
use Rattle.fact_tables.specs.FactTables.{facts_at}
use Rattle.fact_tables.specs.declared.now_or_next.NowOrNext.TheVariants.{Now, Next}
use Rattle.fact_tables.proofs.fact_tables.FactTables.reached.Given as goal

-- the points of the spans before this one are done
abbrev pub invariant-spans : goal.invariant-spans
invariant-spans g l = record {
  only : IsOnlyChanged (facts_at Now l.self) (facts_at Next l.self) l.reached.queries.items;
  done : (c : ℕ) → list_any (within c) (take l.span-index l.spans) ≡ true → IsDone l.self.index (facts_at Now l.self) (facts_at Next l.self) l.reached c;
}
