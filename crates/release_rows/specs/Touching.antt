-- The rows that speak of code points in spans.
-- meets spans row     the row speaks of a code point in some of the spans; never so of a row of names
-- SpeakingRowsMeetSpans            each row that speaks of a code point in one of the spans meets them
use Rattle.std.specs.Prelude.{◌≡◌, ℕ, Bool, true, List}
use Rattle.std.specs.List.{list_any}
use Rattle.ucd_points.specs.Bounds.{Bounds}
use Rattle.ucd_facts.specs.Facts.{within}
use Rattle.release_rows.specs.Keys.{spans_meet, Row}
use Rattle.release_rows.specs.OperationLaws.{speaks_of}
use Rattle.release_rows.specs.Operations.{row_spans}

abbrev pub meets : List Bounds → Row → Bool
meets spans row = list_any (λ own. list_any (spans_meet own) spans) (row_spans row)

abbrev pub SpeakingRowsMeetSpans : Type 0
SpeakingRowsMeetSpans = (spans : List Bounds) (c : ℕ) (row : Row) → list_any (within c) spans ≡ true → speaks_of c row ≡ true → meets spans row ≡ true
