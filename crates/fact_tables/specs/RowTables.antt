-- What the tables that are made of rows keep for each code point.
--
-- word_in t c         the word of c
-- first_alone xs      the first of a list alone; of an empty list nothing
-- rest_in t c         what is kept of c beside its word
-- others_in t c       the same, without the decomposition mapping
-- IsBare t c          c has no more than a decomposition mapping; AreBare t c end: so it is of all from c to before the end
-- made_facts t c      the facts of c that the tables keep
use Rattle.std.specs.Prelude.{◌≡◌, ℕ, ◌<◌, ◌≤◌, List, [], ◌∷◌}
use Rattle.range_table.specs.RunTable.{values_now}
use Rattle.ucd_facts.specs.Facts.{Facts}
use Rattle.fact_tables.specs.CaseImages.{cases_at}
use Rattle.fact_tables.specs.KeptFacts.{kept_at}
use Rattle.fact_tables.specs.PointLists.{lists_now}
use Rattle.fact_tables.specs.Rest.{RestOf, no_rest}
use Rattle.fact_tables.specs.declared.row_tables.RowTables.{RowTables}

abbrev pub word_in : RowTables → ℕ → ℕ
word_in t c = values_now t.words c

abbrev pub first_alone : List ℕ → List ℕ
first_alone [] = []
first_alone (c ∷ cs) = c ∷ []

abbrev pub rest_in : RowTables → ℕ → RestOf
rest_in t c = record {
  mapping = lists_now t.lists.value.mappings c;
  upper = first_alone (lists_now t.lists.value.uppers c);
  lower = first_alone (lists_now t.lists.value.lowers c);
  title = first_alone (lists_now t.lists.value.titles c);
  cases = cases_at t.cases.value.images c;
}

abbrev pub others_in : RowTables → ℕ → RestOf
others_in t c = record {
  mapping = [];
  upper = first_alone (lists_now t.lists.value.uppers c);
  lower = first_alone (lists_now t.lists.value.lowers c);
  title = first_alone (lists_now t.lists.value.titles c);
  cases = cases_at t.cases.value.images c;
}

abbrev pub IsBare : RowTables → ℕ → Type 0
IsBare t c = others_in t c ≡ no_rest

abbrev pub AreBare : RowTables → ℕ → ℕ → Type 0
AreBare t c end = (d : ℕ) → c ≤ d → d < end → IsBare t d

abbrev pub made_facts : RowTables → ℕ → Facts
made_facts t c = kept_at c (word_in t c) (rest_in t c)
