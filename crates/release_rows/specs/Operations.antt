-- One operation on the rows of a file: which rule it breaks, and what the items are after it.
-- row_passes p item            the item has a row, and that passes the test; never so of trivia
-- holds_row p items            some row passes
-- has_key file key row         the row has this key
-- overlaps_another file row other   the other row has another key, and the row overlaps it
-- same_group file row other    the rows are of one group: what the rows of a group share is the same
-- follows file row other       the other row is of the row's group and has a greater key
-- behind_group file row items none   how many items stand up to the last row of the row's group; where its group has no row, none
-- place_in file row items      how many items stand before an added row: those before the first row that follows it; if none
--                              follows, those up to the last row of its group; if its group has no row, all. Before a missing
--                              row, whose group are the missing rows: those up to the last of these; if there is none, no item
-- or_line_feed ending          LF where there is no line end, else the line end
-- with_end item                the item, with a LF where it has no line end
-- ended items                  the same of the last item
-- put_in items n item          the item behind the first n, of which the last has a line end now
-- item_of_row row bytes ending  the item of these bytes, which stand for the row
-- added_item row bytes         the item of these bytes and a LF
-- changed_item file row bytes item   the item of these bytes where the item has a row of the same key, with that one's line end;
--                              else the item
-- edited items op              the items of the operation's file after it, or the rule: of an addition K1 where a row has its
--                              key, of a change and a withdrawal K2 where none has, and then K4 where the row overlaps another
--                              one; the row that a change replaces is not looked at
-- op_file op                   the file of the operation
-- with_edited files file result   the files with these items in the one file; or the rule
-- op_or_rule files op          the files after the operation, of which one has other items; or the rule
-- IsOp op                      the operation's row can be a row of its file, and is read from its bytes
-- row_spans row                the code points that the row speaks of; none of a row of names
-- AnswersOp result expected spans old new   what an operation answers and what is next then: these spans and what is expected; the
--                              rule that is expected and what was next; what was next if memory ran out
-- touched items op             those of the rows with the operation's key that are taken out, and then those of its row
use Rattle.std.specs.Prelude.{◌≡◌, ℕ, ◌+◌, ◌-◌, Bool, false, ◌&&◌, not, List, [], ◌∷◌, ◌++◌, map, take, drop, length, filter, Option, Some, None, Result, Ok, Err, count_by, if◌then◌else◌, option_to_list, bytes_eq}
use Rattle.std.specs.List.{list_any, position_or_len, suffix_len, flat_map}
use Rattle.ucd_points.specs.Bounds.{Bounds}
use Rattle.ucd_points.specs.Lines.{LineEnding, unended, lf, cr_lf, is_lf}
use Rattle.ucd_facts.specs.RowSpans.{span_in}
use Rattle.ucd_facts.specs.RowValues.{RowOk}
use Rattle.source_rows.specs.Faults.{row_or_fault}
use Rattle.source_rows.specs.Keys.{key_of, equal_keys, is_before}
use Rattle.source_rows.specs.KeyNames.{group_of}
use Rattle.source_rows.specs.declared.key.Key.{Key}
use Rattle.release_rows.specs.Keys.{is_missing_in, same_key, overlaps}
use Rattle.release_rows.specs.Releases.{items_at, with_items, FileItem, SourceFile, Row}
use Rattle.release_rows.specs.declared.key_rule.KeyRule.{KeyRule}
use Rattle.release_rows.specs.declared.key_rule.KeyRule.TheVariants.{K1, K2, K4}
use Rattle.release_rows.specs.declared.operation.Op.{Op}
use Rattle.release_rows.specs.declared.operation.Op.TheVariants.{Add, Change, Withdraw}
use Rattle.release_rows.specs.declared.operation.OpStop.{OpStop}
use Rattle.release_rows.specs.declared.operation.OpStop.TheVariants.{Key as Breaks, Memory}

-- ---- rows among the items

abbrev passes_some : (Row → Bool) → Option Row → Bool
passes_some p None = false
passes_some p (Some row) = p row

abbrev pub row_passes : (Row → Bool) → FileItem → Bool
row_passes p item = passes_some p item.row

abbrev pub holds_row : (Row → Bool) → List FileItem → Bool
holds_row p items = list_any (row_passes p) items

abbrev pub has_key : SourceFile → Key → Row → Bool
has_key file key row = equal_keys (key_of file row) key

abbrev pub overlaps_another : SourceFile → Row → Row → Bool
overlaps_another file row other = not (same_key file row other) && overlaps file row other

-- ---- the place of an added row

abbrev pub same_group : SourceFile → Row → Row → Bool
same_group file row other = bytes_eq (group_of file row) (group_of file other)

abbrev pub follows : SourceFile → Row → Row → Bool
follows file row other = same_group file row other && is_before (key_of file row) (key_of file other)

abbrev pub behind_group : SourceFile → Row → List FileItem → ℕ → ℕ
behind_group file row items none =
    if holds_row (same_group file row) items then length items - suffix_len (λ item. not (row_passes (same_group file row) item)) items else none

abbrev pub place_in : SourceFile → Row → List FileItem → ℕ
place_in file row items =
    if is_missing_in file row
    then behind_group file row items 0
    else (if holds_row (follows file row) items then position_or_len (row_passes (follows file row)) items else behind_group file row items (length items))

-- ---- an item that is put in, changed or taken out

abbrev or_line_feed : LineEnding → LineEnding
or_line_feed unended = lf
or_line_feed lf = lf
or_line_feed cr_lf = cr_lf

abbrev pub with_end : FileItem → FileItem
with_end item = record { content = item.content; ending = or_line_feed item.ending; lines = item.lines; row = item.row }

abbrev pub ended : List FileItem → List FileItem
ended [] = []
ended (item ∷ []) = with_end item ∷ []
ended (item ∷ next ∷ items) = item ∷ ended (next ∷ items)

abbrev pub put_in : List FileItem → ℕ → FileItem → List FileItem
put_in items n item = ended (take n items) ++ item ∷ drop n items

abbrev pub item_of_row : Row → List ℕ → LineEnding → FileItem
item_of_row row bytes ending = record { content = bytes; ending = ending; lines = count_by is_lf bytes + 1; row = Some row }

abbrev pub added_item : Row → List ℕ → FileItem
added_item row bytes = item_of_row row bytes lf

abbrev pub changed_item : SourceFile → Row → List ℕ → FileItem → FileItem
changed_item file row bytes item = if row_passes (same_key file row) item then item_of_row row bytes item.ending else item

-- ---- the operation

unfoldable pub edited : List FileItem → Op → Result (List FileItem) KeyRule
edited items (Add file row bytes) =
    if holds_row (same_key file row) items
    then Err K1
    else (if holds_row (overlaps file row) items then Err K4 else Ok (put_in items (place_in file row items) (added_item row bytes)))
edited items (Change file row bytes) =
    if holds_row (same_key file row) items
    then (if holds_row (overlaps_another file row) items then Err K4 else Ok (map (changed_item file row bytes) items))
    else Err K2
edited items (Withdraw file key) = if holds_row (has_key file key) items then Ok (filter (λ item. not (row_passes (has_key file key) item)) items) else Err K2

abbrev pub op_file : Op → SourceFile
op_file (Add file row bytes) = file
op_file (Change file row bytes) = file
op_file (Withdraw file key) = file

abbrev pub with_edited : List (List FileItem) → SourceFile → Result (List FileItem) KeyRule → Result (List (List FileItem)) KeyRule
with_edited files file (Ok items) = Ok (with_items files file items)
with_edited files file (Err rule) = Err rule

abbrev pub op_or_rule : List (List FileItem) → Op → Result (List (List FileItem)) KeyRule
op_or_rule files op = with_edited files (op_file op) (edited (items_at files (op_file op)) op)

abbrev ReadsAsRow : SourceFile → Row → List ℕ → Type 0
ReadsAsRow file row bytes = row_or_fault file bytes ≡ Ok row

abbrev pub IsOp : Op → Type 0
IsOp (Add file row bytes) = RowOk file row × ReadsAsRow file row bytes
IsOp (Change file row bytes) = RowOk file row × ReadsAsRow file row bytes
IsOp (Withdraw file key) = Unit {0}

-- ---- what it touches

abbrev pub row_spans : Row → List Bounds
row_spans row = option_to_list (span_in row)

abbrev pub spans_of : Option Row → List Bounds
spans_of None = []
spans_of (Some row) = row_spans row

abbrev pub spans_with : (Row → Bool) → List FileItem → List Bounds
spans_with p items = flat_map (λ item. spans_of item.row) (filter (row_passes p) items)

abbrev pub touched : List FileItem → Op → List Bounds
touched items (Add file row bytes) = row_spans row
touched items (Change file row bytes) = spans_with (same_key file row) items ++ row_spans row
touched items (Withdraw file key) = spans_with (has_key file key) items

-- ---- what it answers

abbrev pub AnswersOp : {A : Type 0} → Result (List Bounds) OpStop → Result A KeyRule → List Bounds → A → A → Type 0
AnswersOp (Ok spans) (Ok items) all old new = (new ≡ items) × (spans ≡ all)
AnswersOp (Err (Breaks rule)) (Err broken) all old new = (rule ≡ broken) × (new ≡ old)
AnswersOp (Err Memory) expected all old new = new ≡ old
AnswersOp _ _ all old new = ⊥
