-- How many lines a row has. UAX #44, section 4.2.3.
-- TwoLines file bytes   a line of UnicodeData.txt that is no trivia and begins a range, with or without a CR at its end, a LF, and a
--                       line that is not empty
-- HasLines file bytes   bytes with a LF are two such lines; a line without one begins no range
-- RowsAreLinesOrRanges         so it is of all bytes that are read as a row
use Rattle.std.specs.Prelude.{◌≡◌, ◌≢◌, ℕ, true, false, List, [], ◌∷◌, ◌++◌, Ok}
use Rattle.ucd_points.specs.Lines.{holds_line_feed, without_return}
use Rattle.ucd_points.specs.MissingLines.{is_trivia}
use Rattle.ucd_points.specs.declared.files.SourceFile.TheVariants.{UnicodeData}
use Rattle.source_rows.specs.Faults.{row_or_fault, SourceFile, Row}
use Rattle.source_rows.specs.Lines.{is_first_line}

pub record TwoLines (file : SourceFile) (bytes : List ℕ) : Type 0 where
  pub here : file ≡ UnicodeData
  pub front : List ℕ
  pub last : List ℕ
  pub lines : bytes ≡ front ++ 10 ∷ last
  pub one_line : holds_line_feed front ≡ false
  pub other_line : holds_line_feed last ≡ false
  pub no_trivia : is_trivia file (without_return front) ≡ false
  pub begins : is_first_line (without_return front) ≡ true
  pub some : last ≢ []

pub record HasLines (file : SourceFile) (bytes : List ℕ) : Type 0 where
  pub one : holds_line_feed bytes ≡ false → file ≡ UnicodeData → is_first_line bytes ≡ false
  pub two : holds_line_feed bytes ≡ true → TwoLines file bytes

abbrev pub RowsAreLinesOrRanges : Type 0
RowsAreLinesOrRanges = (file : SourceFile) (bytes : List ℕ) (row : Row) → row_or_fault file bytes ≡ Ok row → HasLines file bytes
