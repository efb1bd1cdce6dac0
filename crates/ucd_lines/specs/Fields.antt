-- The fields of a line that are left to be handed out. UAX #44, section 4.2.
-- fields_left rest   the fields of the text that is left; none where there is no text left
use Rattle.std.specs.Prelude.{ℕ, List, [], map, Option, Some, None}
use Rattle.std.specs.List.{slice_split}
use Rattle.std.specs.Borrow.{Bor}
use Rattle.ucd_points.specs.Fields.{trim, is_semicolon}

abbrev pub fields_left : Option (Bor (List ℕ)) → List (List ℕ)
fields_left None = []
fields_left (Some text) = map trim (slice_split is_semicolon text.now)
