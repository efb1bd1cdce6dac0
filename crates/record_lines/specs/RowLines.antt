-- The rows of a release that speak of a code point, as they stand in the lines of their files. UAX #44, section 4.2.
-- is_range row                 the row stands in two lines: a range of UnicodeData.txt. Every other row stands in one
-- place_of numbered            where a row stands, given with the number of its first line
-- speaking c rows              of rows with the numbers of their first lines, those that speak of the code point, in order: it is one
--                              of their code points. A missing row speaks of those of its span; a row of names of none
-- rows_lines file lines rows c  the lines of those of these rows of a file that speak of the code point, in order
-- if_speaks row text c         a text, if a row speaks of the code point; else nothing
-- file_rows_text items file c  the lines of the rows of these items that speak of the code point, in the order of the file
-- rows_text files c            those of all source files, file by file
use Rattle.std.specs.Prelude.{ℕ, Bool, false, List, [], filter, map, if◌then◌else◌, flat_map}
use Rattle.ucd_points.specs.Lines.{contents}
use Rattle.ucd_points.specs.SourceFiles.{source_files}
use Rattle.ucd_facts.specs.declared.row.Row.TheVariants.{Unit as DataLine}
use Rattle.release_rows.specs.FileItems.{FileItem, bytes_of, SourceFile, Row}
use Rattle.release_rows.specs.OperationLaws.{speaks_of}
use Rattle.release_rows.specs.Releases.{items_at, rows_at}
use Rattle.record_lines.specs.FileLines.{place_lines}
use Rattle.record_lines.specs.declared.row_place.RowPlace.{RowPlace}

abbrev pub is_range : Row → Bool
is_range (DataLine row) = row.range
is_range _ = false

abbrev pub place_of : ℕ × Row → RowPlace
place_of numbered = record { line = numbered.0; range = is_range numbered.1 }

abbrev pub speaking : ℕ → List (ℕ × Row) → List (ℕ × Row)
speaking c rows = filter (λ (numbered : ℕ × Row). speaks_of c numbered.1) rows

abbrev pub rows_lines : SourceFile → List (List ℕ) → List (ℕ × Row) → ℕ → List ℕ
rows_lines file lines rows c = flat_map (place_lines file lines) (map place_of (speaking c rows))

abbrev pub if_speaks : Row → List ℕ → ℕ → List ℕ
if_speaks row text c = if speaks_of c row then text else []

abbrev pub file_rows_text : List FileItem → SourceFile → ℕ → List ℕ
file_rows_text items file c = rows_lines file (contents (bytes_of items)) (rows_at items) c

abbrev pub rows_text : List (List FileItem) → ℕ → List ℕ
rows_text files c = flat_map (λ file. file_rows_text (items_at files file) file c) source_files
