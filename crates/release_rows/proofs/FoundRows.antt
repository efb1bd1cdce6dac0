-- What is found among the entries of a file stands among its items.
use Rattle.std.proofs.Common.{◌≡◌, Bool, false, List, [], ◌∷◌, Option, Some, None, is_some, refl, sym, subst, ◌∙◌}
use Rattle.std.specs.List.{All, list_any}
use Rattle.std.proofs.lemmas.Bool.{or_parts}
use Rattle.std.proofs.lemmas.List.Elements.{All-weaker}
use Rattle.source_rows.specs.KeyNames.{ContentsHaveKeys}
use Rattle.part_list.specs.declared.entry.Entry.{Entry}
use Rattle.part_list.specs.declared.spot.Spot.{Spot}
use Rattle.part_list.specs.Parts.{flat}
use Rattle.part_list.specs.Finds.{FirstAt}
use Rattle.part_list.specs.SpotLaws.{first_some, first_none}
use Rattle.release_rows.specs.FileItems.{FileItem, SourceFile, Row}
use Rattle.release_rows.specs.Finding.{IsFirst, items_of}
use Rattle.release_rows.specs.Keys.{overlaps, same_key}
use Rattle.release_rows.specs.Operations.{holds_row, overlaps_another, row_passes}
use Rattle.release_rows.specs.Searches.{Sought, IsSoughtRow, entry_passes, meets_another, starts_alike, with_test}
use Rattle.release_rows.specs.StoredItems.{IsStored, stored_at}
use Rattle.release_rows.specs.declared.search.Test.TheVariants.{SameKey, OverlapsAnother}
use Rattle.release_rows.specs.declared.stored_item.StoredItem.{StoredItem}
use Rattle.release_rows.proofs.GapPlaces.{nothing}
use Rattle.release_rows.proofs.Moved.{any_moved, first_moved}
use Rattle.release_rows.proofs.Seeking.{another_found, key_found}

-- one is found exactly where some entry passes
pub found_any : (p : Entry StoredItem → Bool) (parts : List (List (Entry StoredItem))) (o : Option Spot) → FirstAt o p parts → list_any p (flat parts) ≡ is_some o
found_any p parts None h = first_none p parts h
found_any p parts (Some spot) h = first_some p parts spot nothing h

-- where no row has the key, an overlap is one with another row
another_is : (file : SourceFile) (row : Row) (items : List FileItem) → holds_row (same_key file row) items ≡ false → holds_row (overlaps_another file row) items ≡ holds_row (overlaps file row) items
another_is file row [] h = refl
another_is file row (item ∷ items) h =
    let p = or_parts (row_passes (same_key file row) item) (holds_row (same_key file row) items) h in
    rw (by item.row p.0, another_is file row items p.1) refl
  where
    by : (o : Option Row) → row_passes (same_key file row) (record { content = item.content; ending = item.ending; lines = item.lines; row = o }) ≡ false → row_passes (overlaps_another file row) (record { content = item.content; ending = item.ending; lines = item.lines; row = o }) ≡ row_passes (overlaps file row) (record { content = item.content; ending = item.ending; lines = item.lines; row = o })
    by None e = refl
    by (Some r) e = rw e refl

module _ (s : Sought) (row : Row) (parts : List (List (Entry StoredItem))) (law : ContentsHaveKeys) (is : IsSoughtRow s.file row s.text s) (all : All (IsStored s.file s.text) (flat parts)) where
  pub all_keys : All (λ e. starts_alike s e ≡ row_passes (same_key s.file row) (stored_at s.file s.text e)) (flat parts)
  all_keys = All-weaker (IsStored s.file s.text) (λ e. starts_alike s e ≡ row_passes (same_key s.file row) (stored_at s.file s.text e)) (λ e h. key_found s.file s.text e row s law is h) (flat parts) all

  all_meet : All (λ e. meets_another s e ≡ row_passes (overlaps_another s.file row) (stored_at s.file s.text e)) (flat parts)
  all_meet = All-weaker (IsStored s.file s.text) (λ e. meets_another s e ≡ row_passes (overlaps_another s.file row) (stored_at s.file s.text e)) (λ e h. another_found s.file s.text e row s law is h) (flat parts) all

  pub key_any : (t : Sought) (o : Option Spot) → t ≡ with_test s SameKey → FirstAt o (entry_passes t) parts → holds_row (same_key s.file row) (items_of s.file s.text parts) ≡ is_some o
  key_any t o same h =
      let first = subst (λ (x : Sought). FirstAt o (entry_passes x) parts) same h in
      sym (any_moved (starts_alike s) (row_passes (same_key s.file row)) (stored_at s.file s.text) (flat parts) all_keys) ∙ found_any (starts_alike s) parts o first

  pub another_any : (t : Sought) (o : Option Spot) → t ≡ with_test s OverlapsAnother → FirstAt o (entry_passes t) parts → holds_row (overlaps_another s.file row) (items_of s.file s.text parts) ≡ is_some o
  another_any t o same h =
      let first = subst (λ (x : Sought). FirstAt o (entry_passes x) parts) same h in
      sym (any_moved (meets_another s) (row_passes (overlaps_another s.file row)) (stored_at s.file s.text) (flat parts) all_meet) ∙ found_any (meets_another s) parts o first

  pub overlap_any : (t : Sought) (o : Option Spot) → holds_row (same_key s.file row) (items_of s.file s.text parts) ≡ false → t ≡ with_test s OverlapsAnother → FirstAt o (entry_passes t) parts → holds_row (overlaps s.file row) (items_of s.file s.text parts) ≡ is_some o
  overlap_any t o none same h = sym (another_is s.file row (items_of s.file s.text parts) none) ∙ another_any t o same h

  pub key_place : (t : Sought) (spot : Spot) → t ≡ with_test s SameKey → FirstAt (Some spot) (entry_passes t) parts → IsFirst spot (same_key s.file row) (items_of s.file s.text parts) parts
  key_place t spot same h =
      let first = subst (λ (x : Sought). FirstAt (Some spot) (entry_passes x) parts) same h in
      (first.0, sym (first_moved (starts_alike s) (row_passes (same_key s.file row)) (stored_at s.file s.text) (flat parts) all_keys) ∙ first.1, key_any t (Some spot) same h)
