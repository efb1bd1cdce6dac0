-- The values of rows by their numbers.
-- names_in set              the names of a set in order
-- IsNumbered names r row    the numbered row r has the span of the row, and the number of its value among the names
-- AreNumbered names rs rows   the same of each of the rows, in order
-- AreValues v names rows    v has these names, and the rows of a span and a value by the numbers that their values have there, missing
--                           rows by themselves
-- AreNumbersOf n rows       the listed properties, the scripts and the word breaks of n are those of the rows of each file
use Rattle.std.specs.Prelude.{◌≡◌, ℕ, List, Some, map, slice_get}
use Rattle.std.specs.List.{AllZip}
use Rattle.std.specs.Global.{Vec}
use Rattle.indexmap.specs.IndexSet.{IndexSet}
use Rattle.ucd_points.specs.declared.files.SourceFile.{SourceFile}
use Rattle.ucd_points.specs.declared.files.SourceFile.TheVariants.{PropList, Scripts, WordBreakProperty}
use Rattle.ucd_facts.specs.declared.row.Row.{Row}
use Rattle.ucd_facts.specs.declared.row.ValueRow.{ValueRow}
use Rattle.property_aliases.specs.Sources.{break_names, listed_names, missing_rows, script_names, value_rows}
use Rattle.property_aliases.specs.declared.file_values.FileValues.{FileValues}
use Rattle.property_aliases.specs.declared.file_values.NumberedRow.{NumberedRow}
use Rattle.property_aliases.specs.declared.value_numbers.ValueNumbers.{ValueNumbers}

abbrev pub names_in : {S : Type 0} → IndexSet (Vec ℕ) S → List (List ℕ)
names_in set = map (λ k. k.items) set.keys

pub record IsNumbered (names : List (List ℕ)) (numbered : NumberedRow) (row : ValueRow) : Type 0 where
  pub number : slice_get names numbered.number ≡ Some row.value
  pub span : numbered.span ≡ row.span

abbrev pub AreNumbered : List (List ℕ) → List NumberedRow → List ValueRow → Type 0
AreNumbered names numbered rows = AllZip (IsNumbered names) numbered rows

pub record AreValues (values : FileValues) (names : List (List ℕ)) (rows : List Row) : Type 0 where
  pub names_are : names_in values.names ≡ names
  pub rows_are : AreNumbered (names_in values.names) values.rows.items (value_rows rows)
  pub missing_are : AreNumbered (names_in values.names) values.missing.items (missing_rows rows)

pub record AreNumbersOf (numbers : ValueNumbers) (rows : SourceFile → List Row) : Type 0 where
  pub listed : AreValues numbers.listed (listed_names (rows PropList)) (rows PropList)
  pub scripts : AreValues numbers.scripts (script_names (rows Scripts)) (rows Scripts)
  pub breaks : AreValues numbers.breaks (break_names (rows WordBreakProperty)) (rows WordBreakProperty)
