-- The items of a file: trivia, and rows with the bytes that they stand in.
-- FileItem               the content of a row or of a line of trivia, what ends it, how many lines it has, and the row; None for
--                        trivia
-- FileLists              a file with its items now, and those that are to be the next ones
-- onto_rows row rows     the row before the rows; the rows alone where there is none
-- rows_in items          the rows in order
-- file_item_bytes item   the content and the bytes of the ending
-- bytes_of items         contents and endings put together; no bytes for no items
-- lines_of items         how many lines they have
use Rattle.std.specs.Prelude.{ℕ, List, [], ◌∷◌, ◌++◌, Option, Some, None, flat_map, sum_by}
use Rattle.ucd_points.specs.Lines.{LineEnding, ending_bytes}
pub use Rattle.ucd_points.specs.declared.files.SourceFile.{SourceFile}
pub use Rattle.ucd_facts.specs.declared.row.Row.{Row}

pub record FileItem : Type 0 where
  pub content : List ℕ
  pub ending : LineEnding
  pub lines : ℕ
  pub row : Option Row

pub record FileLists : Type 0 where
  pub file : SourceFile
  pub now : List FileItem
  pub next : List FileItem

abbrev pub onto_rows : Option Row → List Row → List Row
onto_rows None rows = rows
onto_rows (Some row) rows = row ∷ rows

abbrev pub rows_in : List FileItem → List Row
rows_in [] = []
rows_in (item ∷ items) = onto_rows item.row (rows_in items)

abbrev pub file_item_bytes : FileItem → List ℕ
file_item_bytes item = item.content ++ ending_bytes item.ending

abbrev pub bytes_of : List FileItem → List ℕ
bytes_of items = flat_map file_item_bytes items

abbrev pub lines_of : List FileItem → ℕ
lines_of items = sum_by (λ item. item.lines) items
