use Rattle.std.proofs.Common.{◌≡◌, ℕ, ◌<◌, cond, take}
use Rattle.std.specs.List.{list_any}
use Rattle.ucd_facts.specs.Facts.{within}
use Rattle.range_table.specs.RunTable.{values_next}
use Rattle.fact_tables.proofs.painting.table_of_spans.Given as goal

-- the spans before this one are painted
abbrev pub invariant-spans : goal.invariant-spans
invariant-spans l = (c : ℕ) → c < 1114112 → values_next l.table c ≡ cond (list_any (within c) (take l.span-index l.span-items)) l.value 0
