-- Rows and trivia.
-- RowsAreNoTrivia   bytes that are read as a row are no trivia: neither blank nor a comment, but for a missing line
use Rattle.std.specs.Prelude.{◌≡◌, ℕ, false, List, Ok}
use Rattle.ucd_points.specs.MissingLines.{is_trivia}
use Rattle.source_rows.specs.Faults.{row_or_fault, SourceFile, Row}

abbrev pub RowsAreNoTrivia : Type 0
RowsAreNoTrivia = (file : SourceFile) (bytes : List ℕ) (row : Row) → row_or_fault file bytes ≡ Ok row → is_trivia file bytes ≡ false
