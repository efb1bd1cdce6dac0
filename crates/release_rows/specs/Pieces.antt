-- The pieces of a file: a line each, or the two lines of a range. UAX #44, section 4.2.3.
-- Lines                      a piece: its first line, and the second where it has two
-- opens_range file content   a line of UnicodeData.txt that is no trivia and begins a range
-- one_line a                 the piece of the line a
-- two_lines a b              the piece of the lines a and b
-- pieces file lines          a line that opens a range and the next one, whatever that is, are one piece; every other line is
--                            one, and so is a line that opens a range at the end of the file; no lines have no piece
-- piece_content p            what stands before the piece's ending: of two lines both, with what ends the first between
-- piece_ending p             what ends its last line
-- piece_lines p              how many lines it has
-- content_by, ending_by      piece_content and piece_ending, by the first line and the second, where there is one
-- lines_by                   piece_lines, by the second line, where there is one
-- piece_bytes p              its content and the bytes of its ending
use Rattle.std.specs.Prelude.{ℕ, Bool, false, ◌&&◌, not, List, [], ◌∷◌, ◌++◌, Option, Some, None, if◌then◌else◌}
use Rattle.ucd_points.specs.Lines.{LineItem, LineEnding, item_bytes, ending_bytes}
use Rattle.ucd_points.specs.MissingLines.{is_trivia}
use Rattle.ucd_points.specs.declared.files.SourceFile.{SourceFile}
use Rattle.ucd_points.specs.declared.files.SourceFile.TheVariants.{UnicodeData}
use Rattle.source_rows.specs.Lines.{is_first_line}

pub record Lines : Type 0 where
  pub first : LineItem
  pub last : Option LineItem

abbrev pub opens_range : SourceFile → List ℕ → Bool
opens_range UnicodeData content = not (is_trivia UnicodeData content) && is_first_line content
opens_range _ content = false

abbrev pub one_line : LineItem → Lines
one_line a = record { first = a; last = None }

abbrev pub two_lines : LineItem → LineItem → Lines
two_lines a b = record { first = a; last = Some b }

abbrev pub pieces : SourceFile → List LineItem → List Lines
pieces file [] = []
pieces file (a ∷ []) = one_line a ∷ []
pieces file (a ∷ b ∷ rest) = if opens_range file a.content then two_lines a b ∷ pieces file rest else one_line a ∷ pieces file (b ∷ rest)

abbrev content_by : LineItem → Option LineItem → List ℕ
content_by first None = first.content
content_by first (Some last) = item_bytes first ++ last.content

abbrev pub piece_content : Lines → List ℕ
piece_content p = content_by p.first p.last

abbrev ending_by : LineItem → Option LineItem → LineEnding
ending_by first None = first.ending
ending_by first (Some last) = last.ending

abbrev pub piece_ending : Lines → LineEnding
piece_ending p = ending_by p.first p.last

abbrev lines_by : Option LineItem → ℕ
lines_by None = 1
lines_by (Some last) = 2

abbrev pub piece_lines : Lines → ℕ
piece_lines p = lines_by p.last

abbrev pub piece_bytes : Lines → List ℕ
piece_bytes p = piece_content p ++ ending_bytes (piece_ending p)
