-- What the tables of UnicodeData.txt keep for each code point.
--
-- data_now t c             what the tables keep for c
-- data_next given c        what was given to c so far
-- AreEmpty lists span           the lists of the points of the span are empty
-- given_row given          a row with the code points and the values that are given, and nothing else
-- IsFresh row old               the points of a row of UnicodeData.txt were given nothing; so it is of a row of another file
-- Adds row old new              what is new is what the row gives where it covers a code point, and else what was; a row of another
--                               file gives nothing
use Rattle.std.specs.Prelude.{◌≡◌, ℕ, ◌<◌, true, false, List, [], Some, None, if◌then◌else◌}
use Rattle.ucd_points.specs.Bounds.{Bounds}
use Rattle.ucd_facts.specs.DataLines.{kept_of}
use Rattle.ucd_facts.specs.Facts.{within}
use Rattle.ucd_facts.specs.declared.row.DataRow.{DataRow}
use Rattle.ucd_facts.specs.declared.row.Row.{Row}
use Rattle.ucd_facts.specs.declared.row.Row.TheVariants.{Unit as DataLine}
use Rattle.source_rows.specs.declared.point_values.PointValues.{PointValues}
use Rattle.range_table.specs.RunTable.{values_now}
use Rattle.fact_tables.specs.WordRuns.{words_next}
use Rattle.code_facts.specs.Rows.{PointData, row_data}
use Rattle.fact_tables.specs.PointLists.{lists_now, lists_next}
use Rattle.code_facts.specs.declared.data_tables.DataRuns.{DataRuns}
use Rattle.code_facts.specs.declared.data_tables.DataTables.{DataTables}

abbrev pub data_now : DataTables → ℕ → PointData
data_now t c = record {
  word = values_now t.words c;
  mapping = lists_now t.lists.value.mappings c;
  upper = lists_now t.lists.value.uppers c;
  lower = lists_now t.lists.value.lowers c;
  title = lists_now t.lists.value.titles c;
}

abbrev pub data_next : DataRuns → ℕ → PointData
data_next given c = record {
  word = words_next given.words c;
  mapping = lists_next given.lists.value.mappings c;
  upper = lists_next given.lists.value.uppers c;
  lower = lists_next given.lists.value.lowers c;
  title = lists_next given.lists.value.titles c;
}

abbrev pub AreEmpty : (ℕ → List ℕ) → Bounds → Type 0
AreEmpty lists span = (c : ℕ) → c < 1114112 → within c span ≡ true → lists c ≡ []

abbrev pub given_row : PointValues → DataRow
given_row given = record {
  span = given.span;
  range = false;
  name = [];
  category = given.values.category;
  class = given.values.class;
  kind = given.values.decomposition.kind;
  mapping = given.values.decomposition.mapping;
  upper = given.values.upper;
  lower = given.values.lower;
  title = given.values.title;
  kept = kept_of [];
}

abbrev pub IsFresh : Row → (ℕ → PointData) → Type 0
IsFresh (DataLine row) old = (c : ℕ) → c < 1114112 → within c row.span ≡ true → old c ≡ row_data c None
IsFresh _ old = Unit {0}

abbrev pub Adds : Row → (ℕ → PointData) → (ℕ → PointData) → Type 0
Adds (DataLine row) old new = (row.class < 256) × ((c : ℕ) → c < 1114112 → new c ≡ (if within c row.span then row_data c (Some row) else old c))
Adds _ old new = (c : ℕ) → c < 1114112 → new c ≡ old c
