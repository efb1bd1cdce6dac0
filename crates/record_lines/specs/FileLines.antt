-- Lines of a file with where they stand. Lines are counted from 1 over all lines of a file, comments and empty lines among them.
-- UAX #44, section 4.2.
-- line_text file n found       where the file lies, ` line `, the number, `: `, the content that was found, and LF; nothing for None
-- numbered_line file lines n   these of the line with this number, where these are the contents of the file's lines; nothing if there
--                              is no such line
-- place_lines file lines p     those of the line at which a row stands, or of the two lines of a range
use Rattle.std.specs.Prelude.{ℕ, ◌+◌, ◌-◌, List, [], ◌++◌, Option, Some, None, slice_get, if◌then◌else◌, codes, decimal}
use Rattle.ucd_points.specs.SourceFiles.{source_path}
use Rattle.ucd_points.specs.declared.files.SourceFile.{SourceFile}
use Rattle.ucd_model.specs.DerivedText.{line_end}
use Rattle.record_lines.specs.declared.row_place.RowPlace.{RowPlace}

abbrev pub line_text : SourceFile → ℕ → Option (List ℕ) → List ℕ
line_text file n None = []
line_text file n (Some content) = source_path file ++ codes " line " ++ decimal n ++ codes ": " ++ content ++ line_end

abbrev pub numbered_line : SourceFile → List (List ℕ) → ℕ → List ℕ
numbered_line file lines n = line_text file n (slice_get lines (n - 1))

abbrev pub place_lines : SourceFile → List (List ℕ) → RowPlace → List ℕ
place_lines file lines p = numbered_line file lines p.line ++ (if p.range then numbered_line file lines (p.line + 1) else [])
