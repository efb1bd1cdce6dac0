-- The one row that a change replaces, and that a withdrawal takes out.
use Rattle.std.proofs.Common.{◌≡◌, ℕ, Bool, true, false, List, map, set, get_or, Result, Ok, Err, refl, sym, ap, subst, ◌∙◌, arith}
use Rattle.std.specs.List.{position_or_len, remove}
use Rattle.std.proofs.lemmas.List.{get_or-map, length-map}
use Rattle.std.proofs.lemmas.List.Sums.{passes_at_first}
use Rattle.source_rows.specs.declared.key.Key.{Key}
use Rattle.part_list.specs.Parts.{flat, place}
use Rattle.part_list.specs.SpotLaws.{place-lt}
use Rattle.part_list.specs.declared.entry.Entry.{Entry}
use Rattle.part_list.specs.declared.spot.Spot.{Spot}
use Rattle.release_rows.specs.Finding.{FindsRow, FindsSpot, IsFirst, items_of}
use Rattle.release_rows.specs.Keys.{same_key}
use Rattle.release_rows.specs.Operations.{changed_item, edited, has_key, item_of_row, row_passes, spans_of, spans_with}
use Rattle.release_rows.specs.Releases.{AreKept, FileItem, SourceFile, Row}
use Rattle.release_rows.specs.Searches.{Sought, IsSoughtRow}
use Rattle.release_rows.specs.StoredItems.{stored_at}
use Rattle.release_rows.specs.declared.key_rule.KeyRule.{KeyRule}
use Rattle.release_rows.specs.declared.key_rule.KeyRule.TheVariants.{K1, K2, K4}
use Rattle.release_rows.specs.declared.operation.Op.TheVariants.{Change, Withdraw}
use Rattle.release_rows.specs.declared.stored_item.StoredItem.{StoredItem}
use Rattle.release_rows.proofs.Edited.{sought_own}
use Rattle.release_rows.proofs.OneRow.{OneKey, has_key_once, once_kept, once_out, once_set, one_spans, same_key_once}

module _ (file : SourceFile) (text : List ℕ) (parts : List (List (Entry StoredItem))) (spot : Spot) (old : Entry StoredItem) (is : old ≡ get_or (flat parts) (place parts spot) old) where
  at_first : (p : Row → Bool) → IsFirst spot p (items_of file text parts) parts → get_or (items_of file text parts) (position_or_len (row_passes p) (items_of file text parts)) (stored_at file text old) ≡ stored_at file text old
  at_first p first =
      ap (λ (k : ℕ). get_or (items_of file text parts) k (stored_at file text old)) first.1
      ∙ get_or-map (stored_at file text) (flat parts) (place parts spot) old (stored_at file text old) (place-lt parts spot first.0)
      ∙ ap (stored_at file text) (sym is)

  pub first_passes : (p : Row → Bool) → IsFirst spot p (items_of file text parts) parts → row_passes p (stored_at file text old) ≡ true
  first_passes p first =
      let lt = place-lt parts spot first.0 in
      let at = first.1 in
      let long = length-map (flat parts) (stored_at file text) in
      subst (λ (i : FileItem). row_passes p i ≡ true) (at_first p first) (passes_at_first (row_passes p) (items_of file text parts) (stored_at file text old) (omega arith))

  pub first_spans : (p : Row → Bool) → IsFirst spot p (items_of file text parts) parts → OneKey file p → AreKept file (items_of file text parts) → spans_with p (items_of file text parts) ≡ spans_of (stored_at file text old).row
  first_spans p first one kept =
      one_spans p (items_of file text parts) (stored_at file text old) (once_kept file p (items_of file text parts) one kept) first.2
      ∙ ap (λ (i : FileItem). spans_of i.row) (at_first p first)

  unchanged : (row : Row) (bytes : List ℕ) (item : FileItem) → row_passes (same_key file row) item ≡ false → changed_item file row bytes item ≡ item
  unchanged row bytes item h = rw h refl

  -- the item of the changed row stands in the place of the one that was found
  one_changed : (row : Row) (bytes : List ℕ) → IsFirst spot (same_key file row) (items_of file text parts) parts → AreKept file (items_of file text parts) → map (changed_item file row bytes) (items_of file text parts) ≡ set (items_of file text parts) (place parts spot) (item_of_row row bytes (stored_at file text old).ending)
  one_changed row bytes first kept =
      let items = items_of file text parts in
      let p = row_passes (same_key file row) in
      let f = changed_item file row bytes in
      let passes = first_passes (same_key file row) first in
      let new : f (stored_at file text old) ≡ item_of_row row bytes (stored_at file text old).ending = rw passes refl in
      once_set p f items (stored_at file text old) (unchanged row bytes) (once_kept file (same_key file row) items (same_key_once file row) kept) first.2
      ∙ ap (λ (i : FileItem). set items (position_or_len p items) (f i)) (at_first (same_key file row) first)
      ∙ ap (λ (i : FileItem). set items (position_or_len p items) i) new
      ∙ ap (λ (n : ℕ). set items n (item_of_row row bytes (stored_at file text old).ending)) first.1

  pub items_of_change : (row : Row) (bytes : List ℕ) (new : List FileItem) → FindsSpot (Ok spot) file text row parts → AreKept file (items_of file text parts) → new ≡ set (items_of file text parts) (place parts spot) (item_of_row row bytes (stored_at file text old).ending) → edited (items_of file text parts) (Change file row bytes) ≡ Ok new
  unfolding edited
  items_of_change row bytes new found kept e = rw (found.0.2, found.1, e, one_changed row bytes found.0 kept) refl

  pub items_of_withdrawal : (key : Key) (new : List FileItem) → FindsRow (Ok spot) (has_key file key) (items_of file text parts) parts → AreKept file (items_of file text parts) → new ≡ remove (items_of file text parts) (place parts spot) → edited (items_of file text parts) (Withdraw file key) ≡ Ok new
  unfolding edited
  items_of_withdrawal key new found kept e =
      let items = items_of file text parts in
      let out = once_out (row_passes (has_key file key)) items (once_kept file (has_key file key) items (has_key_once file key) kept) found.2 ∙ ap (λ (n : ℕ). remove items n) found.1 in
      rw (found.2, e, out) refl

-- ---- refusals

pub finds_spot : (r : Result Spot KeyRule) (file : SourceFile) (row : Row) (text : List ℕ) (s : Sought) (parts : List (List (Entry StoredItem))) → IsSoughtRow file row text s → ((other : Row) → IsSoughtRow s.file other s.text s → FindsSpot r s.file s.text other parts) → FindsSpot r file text row parts
finds_spot r file row text s parts h found =
    subst (λ (f : SourceFile). FindsSpot r f text row parts) h.file_is (subst (λ (t : List ℕ). FindsSpot r s.file t row parts) h.text_is (found row (sought_own file row text s h)))

pub rule_of_change : (rule : KeyRule) (file : SourceFile) (row : Row) (text bytes : List ℕ) (parts : List (List (Entry StoredItem))) → FindsSpot (Err rule) file text row parts → edited (items_of file text parts) (Change file row bytes) ≡ Err rule
unfolding edited
rule_of_change K1 file row text bytes parts h = absurd h
rule_of_change K2 file row text bytes parts h = rw h refl
rule_of_change K4 file row text bytes parts h = rw (h.0, h.1) refl

pub rule_of_withdrawal : (rule : KeyRule) (file : SourceFile) (key : Key) (text : List ℕ) (parts : List (List (Entry StoredItem))) → FindsRow (Err rule) (has_key file key) (items_of file text parts) parts → edited (items_of file text parts) (Withdraw file key) ≡ Err rule
unfolding edited
rule_of_withdrawal rule file key text parts h = rw (h.0, h.1) refl
