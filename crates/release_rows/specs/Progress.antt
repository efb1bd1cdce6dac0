-- How far a file is loaded.
-- Progress                      the file, its text, and its items so far
-- IsLoading file text items start count end   the items stand in the text, now and next, each with the code points of its row;
--                               beside them are kept the first code point of the last row, the number of lines, and where they
--                               end; there are no more than lines, and the text has fewer than 2^32 bytes
-- HoldsRows file rows kept      of the extents that are kept some pass a test exactly if some of the rows' do
-- Stands text items p           in the text the piece stands behind the items
-- item_by file line p result    the item of a piece whose content is read so, or the fault on its line
-- item_or_fault file line p     the item of a piece whose first line has this number, by itself, or its fault
-- ReadsPiece file line p result   the result is what is kept of the piece's row, or its fault; no claim if memory ran out
-- StopsAs stop fault            the stop is that fault; no claim if memory ran out
-- with_item above item          the same file and text, with one more item behind the others
-- TakesPiece result above next p   the piece has no fault below the items so far, and next has its item behind them; or the result
--                               is its fault; no claim if memory ran out
-- LoadsItems result expected    the result has the items that were expected, now and next, or is the fault; no claim if memory
--                               ran out
-- start_of_entry before entry   the first code point of the last row, with one more row or none
-- rule_of file above row        the rule that a row breaks against the rows above; None where there is no row
-- TakesRow file above row kept rule   the rule is that one; where there is none, the row's extent is kept with those above
use Rattle.std.specs.Prelude.{◌≡◌, ℕ, ◌<◌, ◌≤◌, ◌^◌, Bool, List, [], ◌∷◌, ◌++◌, length, map, Option, Some, None, Result, Ok, Err}
use Rattle.std.specs.List.{list_any, All}
use Rattle.source_rows.specs.declared.fault.RowFault.{RowFault}
use Rattle.part_list.specs.Parts.{PartLists, now_in, next_in}
use Rattle.part_list.specs.declared.entry.Entry.{Entry}
use Rattle.release_rows.specs.Extents.{Extent}
use Rattle.release_rows.specs.LoadedRows.{EntersSome}
use Rattle.release_rows.specs.Keys.{extent_in, last_start}
use Rattle.release_rows.specs.Pieces.{Lines, piece_bytes, piece_content, piece_ending, piece_lines}
use Rattle.release_rows.specs.FileItems.{FileItem, FileLists, bytes_of, onto_rows, rows_in, lines_of, SourceFile, Row}
use Rattle.release_rows.specs.Loading.{LoadFault, content_row, file_item, fault_line, piece_fault, row_rule}
use Rattle.release_rows.specs.StoredItems.{stored_at, IsStored}
use Rattle.release_rows.specs.declared.loaded_row.LoadedRow.{LoadedRow}
use Rattle.release_rows.specs.declared.load_stop.LoadRule.{LoadRule}
use Rattle.release_rows.specs.declared.load_stop.LoadRule.TheVariants.{Row as RowRule}
use Rattle.release_rows.specs.declared.load_stop.LoadStop.{LoadStop}
use Rattle.release_rows.specs.declared.load_stop.LoadStop.TheVariants.{Fault, Memory}
use Rattle.release_rows.specs.declared.stored_item.StoredItem.{StoredItem}

pub record Progress : Type 0 where
  pub file : SourceFile
  pub text : List ℕ
  pub items : List FileItem

pub record IsLoading (file : SourceFile) (text : List ℕ) (items : PartLists (Entry StoredItem)) (start : Option ℕ) (count end : ℕ) : Type 0 where
  pub each : All (IsStored file text) (now_in items)
  pub same : next_in items ≡ now_in items
  pub few : length (now_in items) ≤ count
  pub before : start ≡ last_start (rows_in (map (stored_at file text) (now_in items)))
  pub lines : count ≡ lines_of (map (stored_at file text) (now_in items))
  pub ends : end ≡ length (bytes_of (map (stored_at file text) (now_in items)))
  pub small : length text < 2 ^ 32

abbrev pub HoldsRows : SourceFile → List Row → List Extent → Type 0
HoldsRows file rows kept = (p : Extent → Bool) → list_any p kept ≡ list_any p (map (extent_in file) rows)

abbrev pub Stands : List ℕ → List FileItem → Lines → Type 0
Stands text items p = (rest : List ℕ) × (text ≡ bytes_of items ++ (piece_bytes p ++ rest))

abbrev item_by : SourceFile → ℕ → Lines → Result (Option Row) RowFault → Result FileItem LoadFault
item_by file line p (Ok row) = Ok (record { content = piece_content p; ending = piece_ending p; lines = piece_lines p; row = row })
item_by file line p (Err fault) = Err (record { line = fault_line file line p fault; rule = RowRule fault })

abbrev pub item_or_fault : SourceFile → ℕ → Lines → Result FileItem LoadFault
item_or_fault file line p = item_by file line p (content_row file (piece_content p))

abbrev pub ReadsPiece : SourceFile → ℕ → Lines → Result (Option LoadedRow) LoadStop → Type 0
ReadsPiece file line p (Ok entry) = (content_row file (piece_content p) ≡ Ok (file_item file p).row) × EntersSome file entry (file_item file p).row
ReadsPiece file line p (Err (Fault at rule)) = item_or_fault file line p ≡ Err (record { line = at; rule = rule })
ReadsPiece file line p (Err Memory) = Unit {0}

abbrev pub StopsAs : LoadStop → LoadFault → Type 0
StopsAs (Fault line rule) fault = fault ≡ record { line = line; rule = rule }
StopsAs Memory fault = Unit {0}

abbrev pub with_item : Progress → FileItem → Progress
with_item above item = record { file = above.file; text = above.text; items = above.items ++ item ∷ [] }

abbrev pub TakesPiece : Result (Unit {0}) LoadStop → Progress → Progress → Lines → Type 0
TakesPiece (Ok _) above next p = (piece_fault above.file above.items p ≡ None) × (next ≡ with_item above (file_item above.file p))
TakesPiece (Err (Fault line rule)) above next p = piece_fault above.file above.items p ≡ Some (record { line = line; rule = rule })
TakesPiece (Err Memory) above next p = Unit {0}

abbrev pub LoadsItems : Result FileLists LoadStop → Result (List FileItem) LoadFault → Type 0
LoadsItems (Ok lists) expected = (expected ≡ Ok lists.now) × (lists.next ≡ lists.now)
LoadsItems (Err (Fault line rule)) expected = expected ≡ Err (record { line = line; rule = rule })
LoadsItems (Err Memory) expected = Unit {0}

-- ---- one more row

abbrev pub start_of_entry : Option ℕ → Option LoadedRow → Option ℕ
start_of_entry before None = before
start_of_entry before (Some e) = Some e.place.code

abbrev pub rule_of : SourceFile → List Row → Option Row → Option LoadRule
rule_of file above None = None
rule_of file above (Some row) = row_rule file above row

abbrev pub TakesRow : SourceFile → List Row → Option Row → List Extent → Option LoadRule → Type 0
TakesRow file above row kept rule = (rule ≡ rule_of file above row) × (rule ≡ None → HoldsRows file (above ++ onto_rows row []) kept)
