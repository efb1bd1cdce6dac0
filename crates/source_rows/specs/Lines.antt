-- The lines of a range. UAX #44, section 4.2.3.
-- has_first_name name     `<Label, First>`, with a label that is a name
-- has_last_name name      `<Label, Last>`, with a label that is a name
-- are_first_fields fs     fs has 15 fields, the second of which is `<Label, First>`
-- is_first_line content   a line of UnicodeData.txt with such fields
use Rattle.std.specs.Prelude.{ℕ, Bool, ◌&&◌, List, length, ◌==◌, codes}
use Rattle.ucd_points.specs.Fields.{fields, field, is_label_closed_by}
use Rattle.ucd_points.specs.declared.files.SourceFile.TheVariants.{UnicodeData}

abbrev pub has_first_name : List ℕ → Bool
has_first_name name = is_label_closed_by (codes ", First>") name

abbrev pub has_last_name : List ℕ → Bool
has_last_name name = is_label_closed_by (codes ", Last>") name

abbrev pub are_first_fields : List (List ℕ) → Bool
are_first_fields fs = (length fs == 15) && has_first_name (field fs 1)

abbrev pub is_first_line : List ℕ → Bool
is_first_line content = are_first_fields (fields UnicodeData content)
