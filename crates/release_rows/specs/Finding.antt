-- What the searches of an operation answer.
-- items_of file text parts             the items of the entries of the parts
-- FindsGap result file text row parts  the gap of an added row, where none has its key and none overlaps it; or the rule
-- IsFirst spot p items parts           the entry at the spot has the first row that passes
-- FindsRow result p items parts        the spot of the first row that passes; K2 where none does
-- FindsSpot result file text row parts  the spot of the first row with the key of a changed row, where that overlaps no other one;
--                                      or the rule
use Rattle.std.specs.List.{position_or_len}
use Rattle.std.specs.Prelude.{◌≡◌, ℕ, Bool, true, false, List, map, Result, Ok, Err}
use Rattle.part_list.specs.Parts.{IsEntry, flat, place}
use Rattle.part_list.specs.declared.entry.Entry.{Entry}
use Rattle.part_list.specs.declared.spot.Spot.{Spot}
use Rattle.release_rows.specs.FileItems.{FileItem, SourceFile, Row}
use Rattle.release_rows.specs.Gaps.{IsGapAt}
use Rattle.release_rows.specs.Keys.{overlaps, same_key}
use Rattle.release_rows.specs.Operations.{holds_row, overlaps_another, place_in, row_passes}
use Rattle.release_rows.specs.StoredItems.{stored_at}
use Rattle.release_rows.specs.declared.edits.Gap.{Gap}
use Rattle.release_rows.specs.declared.key_rule.KeyRule.{KeyRule}
use Rattle.release_rows.specs.declared.key_rule.KeyRule.TheVariants.{K1, K2, K4}
use Rattle.release_rows.specs.declared.stored_item.StoredItem.{StoredItem}

abbrev pub items_of : SourceFile → List ℕ → List (List (Entry StoredItem)) → List FileItem
items_of file text parts = map (stored_at file text) (flat parts)

abbrev pub FindsGap : Result Gap KeyRule → SourceFile → List ℕ → Row → List (List (Entry StoredItem)) → Type 0
FindsGap (Ok gap) file text row parts = (holds_row (same_key file row) (items_of file text parts) ≡ false) × (holds_row (overlaps file row) (items_of file text parts) ≡ false) × IsGapAt gap (place_in file row (items_of file text parts)) parts
FindsGap (Err K1) file text row parts = holds_row (same_key file row) (items_of file text parts) ≡ true
FindsGap (Err K2) file text row parts = ⊥
FindsGap (Err K4) file text row parts = (holds_row (same_key file row) (items_of file text parts) ≡ false) × (holds_row (overlaps file row) (items_of file text parts) ≡ true)

abbrev pub IsFirst : Spot → (Row → Bool) → List FileItem → List (List (Entry StoredItem)) → Type 0
IsFirst spot p items parts = IsEntry parts spot × (position_or_len (row_passes p) items ≡ place parts spot) × (holds_row p items ≡ true)

abbrev pub FindsRow : Result Spot KeyRule → (Row → Bool) → List FileItem → List (List (Entry StoredItem)) → Type 0
FindsRow (Ok spot) p items parts = IsFirst spot p items parts
FindsRow (Err rule) p items parts = (rule ≡ K2) × (holds_row p items ≡ false)

abbrev pub FindsSpot : Result Spot KeyRule → SourceFile → List ℕ → Row → List (List (Entry StoredItem)) → Type 0
FindsSpot (Ok spot) file text row parts = IsFirst spot (same_key file row) (items_of file text parts) parts × (holds_row (overlaps_another file row) (items_of file text parts) ≡ false)
FindsSpot (Err K1) file text row parts = ⊥
FindsSpot (Err K2) file text row parts = holds_row (same_key file row) (items_of file text parts) ≡ false
FindsSpot (Err K4) file text row parts = (holds_row (same_key file row) (items_of file text parts) ≡ true) × (holds_row (overlaps_another file row) (items_of file text parts) ≡ true)
