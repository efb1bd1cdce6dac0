-- Laws over the definitions.
-- RowsAreRead          a row is given exactly where the bytes are read as that row
-- PossibleRowsAreReadable            the row values that a file can have are those that some bytes are read as
-- TextsReadBack        the text of a row that the file can have is read as that row
-- SpellingsAreOne      no bytes are read as two rows, and no two rows have one text
-- SpansAreRead      a span is given exactly where the bytes spell it
-- CategoriesAreNamed   the code of each category names it; `Cn` names none
use Rattle.std.specs.Prelude.{◌≡◌, ◌≢◌, ◌↔◌, ℕ, List, Some, None, Ok, codes}
use Rattle.ucd_points.specs.Bounds.{Bounds}
use Rattle.ucd_facts.specs.Names.{category_of, category_code}
use Rattle.ucd_points.specs.Fields.{span_of, SpellsSpan}
use Rattle.ucd_facts.specs.Grammar.{Reads}
use Rattle.ucd_facts.specs.RowTexts.{row_text}
use Rattle.ucd_facts.specs.RowValues.{RowOk}
use Rattle.ucd_facts.specs.declared.category.Category.{Category}
use Rattle.ucd_facts.specs.declared.category.Category.TheVariants.{Cn}
use Rattle.source_rows.specs.Faults.{row_or_fault, SourceFile, Row}

abbrev pub RowsAreRead : Type 0
RowsAreRead = (file : SourceFile) (bytes : List ℕ) (row : Row) → (row_or_fault file bytes ≡ Ok row) ↔ Reads file bytes row

abbrev pub SpansAreRead : Type 0
SpansAreRead = (bs : List ℕ) (s : Bounds) → (span_of bs ≡ Some s) ↔ SpellsSpan bs s

abbrev pub CategoriesAreNamed : Type 0
CategoriesAreNamed = ((k : Category) → k ≢ Cn → category_of (category_code k) ≡ Some k) × (category_of (codes "Cn") ≡ None)

abbrev pub TextsReadBack : Type 0
TextsReadBack = (file : SourceFile) (row : Row) → RowOk file row → row_or_fault file (row_text file row) ≡ Ok row

abbrev pub PossibleRowsAreReadable : Type 0
PossibleRowsAreReadable = (file : SourceFile) (row : Row) → RowOk file row ↔ ((bytes : List ℕ) × Reads file bytes row)

abbrev pub SpellingsAreOne : Type 0
SpellingsAreOne = ((file : SourceFile) (bytes : List ℕ) (row other : Row) → Reads file bytes row → Reads file bytes other → row ≡ other) × ((file : SourceFile) (row other : Row) → RowOk file row → RowOk file other → row_text file row ≡ row_text file other → row ≡ other)
