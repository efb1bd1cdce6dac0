-- What `show` tells: the records of code points, and the rows that give their facts.
-- shown files c             of a code point of these files: its record, and the rows that speak of it, as they stand in the files
-- record_told files c       the code point with its record
-- show_ending points files  the ending: no file, and that of each code point, in order; nothing is refused
use Rattle.std.specs.Prelude.{ℕ, false, List, [], ◌++◌, flat_map}
use Rattle.ucd_model.specs.Records.{record_at}
use Rattle.release_rows.specs.FileItems.{FileItem}
use Rattle.edit_session.specs.Groups.{files_facts}
use Rattle.record_lines.specs.RecordTexts.{record_text}
use Rattle.record_lines.specs.RowLines.{rows_text}
use Rattle.record_lines.specs.declared.point_text.PointText.{PointText}
use Rattle.run_endings.specs.Endings.{Ending}

abbrev pub shown : List (List FileItem) → ℕ → List ℕ
shown files c = record_text c (record_at (files_facts files) c) ++ rows_text files c

abbrev pub record_told : List (List FileItem) → ℕ → PointText
record_told files c = record { point = c; text = record_text c (record_at (files_facts files) c) }

abbrev pub show_ending : List ℕ → List (List FileItem) → Ending
show_ending points files = record { files = []; summary = flat_map (shown files) points; done = false }
