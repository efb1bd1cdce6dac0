-- What the items of a file keep so that they are the items of their bytes.
-- begins_from c row      the row begins at c or behind it
-- Rises rows             no row begins below a row above it
-- Ascends file rows      the rows of UnicodeData.txt rise; those of other files need not
-- IsCut item rest        an item has one more line than its content has LFs; trivia has one; an item without a line end is the last
--                        one, and not empty
-- AreCut items           each item is, with those behind it
-- IsToldApart item       an item that LF alone ends does not end in CR: read again, that CR would be part of the line end
use Rattle.std.specs.Prelude.{◌≡◌, ◌≢◌, ℕ, ◌+◌, ◌≤◌, false, List, [], ◌∷◌, None, count_by, All}
use Rattle.ucd_points.specs.Lines.{unended, lf, is_lf, holds_line_feed, ends_in_return}
use Rattle.ucd_points.specs.declared.files.SourceFile.TheVariants.{UnicodeData}
use Rattle.source_rows.specs.Keys.{row_span}
use Rattle.release_rows.specs.FileItems.{FileItem, SourceFile, Row}

abbrev pub begins_from : ℕ → Row → Type 0
begins_from c row = c ≤ (row_span row).lo

abbrev pub Rises : List Row → Type 0
Rises [] = Unit {0}
Rises (row ∷ rows) = All (begins_from (row_span row).lo) rows × Rises rows

abbrev pub Ascends : SourceFile → List Row → Type 0
Ascends UnicodeData rows = Rises rows
Ascends _ rows = Unit {0}

pub record IsCut (item : FileItem) (rest : List FileItem) : Type 0 where
  pub lines : item.lines ≡ count_by is_lf item.content + 1
  pub trivia : item.row ≡ None → holds_line_feed item.content ≡ false
  pub last : item.ending ≡ unended → (rest ≡ []) × (item.content ≢ [])

abbrev pub AreCut : List FileItem → Type 0
AreCut [] = Unit {0}
AreCut (item ∷ rest) = IsCut item rest × AreCut rest

abbrev pub IsToldApart : FileItem → Type 0
IsToldApart item = item.ending ≡ lf → ends_in_return item.content ≡ false
