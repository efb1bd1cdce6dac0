-- The keys of rows, and which rows of one file may not stand together.
-- same_key file a b           the rows have one key: K1
-- has_spans file              the rows of the file have spans that may not overlap
-- spans_meet a b              the spans share a code point
-- is_missing_row row          the row is a missing row
-- is_missing_in file row      it is one, in a file that has such rows
-- own_end row                 the last code point of the row that is its own: of its span; a missing row shares its span, and has as its
--                             own the first code point alone, which no other row of its key's names begins with
-- own_span row                its own code points
-- overlaps file a b           rows whose keys have the same names share a code point of their own: K4. So rows of PropList.txt of
--                             different properties do not overlap, and a missing row overlaps no row of another key
-- key_rule file above row     the rule that the row breaks against the rows above it, K1 before K4
-- last_start rows             the first code point of the last row; None where there is no row
-- is_below c before           c is less than the one before; never where there is none
-- is_back file before c       in UnicodeData.txt c is less than the one before
-- falls_back file above row   in UnicodeData.txt the row begins below the row before it: K5
-- row_end file row            the last code point that may not be shared: own_end, or the first of the row in a file without spans
-- extent_in file row          the names of the row's key, and the code points from the one in it to that last one
use Rattle.std.specs.Prelude.{ℕ, Bool, true, false, ◌&&◌, List, [], ◌∷◌, Option, Some, None, ◌==◌, nat_le, nat_lt, if◌then◌else◌}
use Rattle.std.specs.List.{list_any}
use Rattle.ucd_points.specs.Bounds.{Bounds}
use Rattle.ucd_points.specs.MissingLines.{takes_missing}
pub use Rattle.ucd_points.specs.declared.files.SourceFile.{SourceFile}
use Rattle.ucd_points.specs.declared.files.SourceFile.TheVariants.{UnicodeData, PropList, Scripts, WordBreakProperty, CompositionExclusions}
pub use Rattle.ucd_facts.specs.declared.row.Row.{Row}
use Rattle.ucd_facts.specs.declared.row.Row.TheVariants.{Missing as MissingLine}
use Rattle.source_rows.specs.Keys.{row_span, key_names, same_texts}
use Rattle.release_rows.specs.Extents.{Extent}
use Rattle.release_rows.specs.declared.conflict.Conflict.{Conflict}
use Rattle.release_rows.specs.declared.conflict.Conflict.TheVariants.{K1, K4}

abbrev pub same_key : SourceFile → Row → Row → Bool
same_key file a b = same_texts (key_names file a) (key_names file b) && ((row_span a).lo == (row_span b).lo)

abbrev pub has_spans : SourceFile → Bool
has_spans UnicodeData = true
has_spans PropList = true
has_spans Scripts = true
has_spans WordBreakProperty = true
has_spans CompositionExclusions = true
has_spans _ = false

abbrev pub spans_meet : Bounds → Bounds → Bool
spans_meet a b = nat_le a.lo b.hi && nat_le b.lo a.hi

abbrev pub is_missing_row : Row → Bool
is_missing_row (MissingLine row) = true
is_missing_row _ = false

abbrev pub is_missing_in : SourceFile → Row → Bool
is_missing_in file row = takes_missing file && is_missing_row row

abbrev pub own_end : Row → ℕ
own_end (MissingLine row) = row.span.lo
own_end row = (row_span row).hi

abbrev pub own_span : Row → Bounds
own_span row = record { lo = (row_span row).lo; hi = own_end row }

abbrev pub overlaps : SourceFile → Row → Row → Bool
overlaps file a b = has_spans file && (same_texts (key_names file a) (key_names file b) && spans_meet (own_span a) (own_span b))

abbrev pub key_rule : SourceFile → List Row → Row → Option Conflict
key_rule file above row = if list_any (same_key file row) above then Some K1 else (if list_any (overlaps file row) above then Some K4 else None)

abbrev pub last_start : List Row → Option ℕ
last_start [] = None
last_start (row ∷ []) = Some (row_span row).lo
last_start (row ∷ next ∷ rows) = last_start (next ∷ rows)

abbrev pub is_below : ℕ → Option ℕ → Bool
is_below c (Some before) = nat_lt c before
is_below c None = false

abbrev pub is_back : SourceFile → Option ℕ → ℕ → Bool
is_back UnicodeData before c = is_below c before
is_back _ before c = false

abbrev pub falls_back : SourceFile → List Row → Row → Bool
falls_back file above row = is_back file (last_start above) (row_span row).lo

-- ---- as extents

abbrev pub row_end : SourceFile → Row → ℕ
row_end file row = if has_spans file then own_end row else (row_span row).lo

abbrev pub extent_in : SourceFile → Row → Extent
extent_in file row = record { names = key_names file row; first = (row_span row).lo; last = row_end file row }
