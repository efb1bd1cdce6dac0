-- The gap of an added row is that of its place.
use Rattle.std.proofs.Common.{◌≡◌, ◌-◌, Bool, true, false, not, List, [], ◌∷◌, length, map, reverse, get_or, Some, None, refl, sym, subst, ◌∙◌, arith}
use Rattle.std.specs.List.{All, list_any, position_or_len, prefix_len, suffix_len}
use Rattle.std.proofs.lemmas.List.{length-map, length-reverse, get_or-reverse, get_or_default}
use Rattle.std.proofs.lemmas.List.Elements.{All-weaker}
use Rattle.std.proofs.lemmas.List.Folds.{list_any-from_Any, list_any_none}
use Rattle.std.proofs.lemmas.List.Sums.{prefix_len_passes}
use Rattle.std.proofs.lemmas.Bool.{not-true}
use Rattle.ucd_lines.specs.declared.item.Ending.TheVariants.{Lf}
use Rattle.part_list.specs.declared.entry.Entry.{Entry}
use Rattle.part_list.specs.declared.spot.Spot.{Spot}
use Rattle.part_list.specs.Parts.{flat, place}
use Rattle.part_list.specs.Finds.{FirstAt, IsBefore, LastAt}
use Rattle.part_list.specs.SpotLaws.{place-lt, first_some, first_none, last_passes}
use Rattle.release_rows.specs.Gaps.{IsGapAt}
use Rattle.source_rows.specs.KeyNames.{ContentsHaveKeys, group_of}
use Rattle.part_list.specs.SeenNumbers.{may_have}
use Rattle.part_list.specs.declared.seen_numbers.SeenNumbers.{SeenNumbers}
use Rattle.release_rows.specs.Noted.{AreNoted, group_hash}
use Rattle.release_rows.specs.Keys.{is_missing_in, Row}
use Rattle.release_rows.specs.Operations.{follows, place_in, row_passes, same_group}
use Rattle.release_rows.specs.Searches.{Sought, IsSoughtRow, comes_behind, is_alike}
use Rattle.release_rows.specs.StoredItems.{IsStored, stored_at}
use Rattle.release_rows.specs.declared.edits.Gap.TheVariants.{Front, Behind, Only}
use Rattle.release_rows.specs.Briefs.{no_brief}
use Rattle.release_rows.specs.declared.stored_item.StoredItem.{StoredItem}
use Rattle.release_rows.proofs.Noting.{alike_nowhere, follows_nowhere}
use Rattle.release_rows.proofs.Moved.{any_moved, first_moved, last_moved}
use Rattle.release_rows.proofs.Seeking.{alike_found, behind_found}

pub nothing : Entry StoredItem
nothing = record { code = 0; last = 0; tag = 0; item = record { start = 0; len = 0; ending = Lf; lines = 1; brief = no_brief } }

last_some : {A : Type 0} (p : A → Bool) (parts : List (List A)) (spot : Spot) (d : A) → LastAt (Some spot) p parts → list_any p (flat parts) ≡ true
last_some p parts spot d h =
    let n = place parts spot in
    let x = get_or (flat parts) n d in
    list_any-from_Any p (flat parts) (n, x, place-lt parts spot h.0, get_or_default (flat parts) n x d (place-lt parts spot h.0), last_passes p parts spot d h)

last_none : {A : Type 0} (p : A → Bool) (xs : List A) → suffix_len (λ x. not (p x)) xs ≡ length xs → list_any p xs ≡ false
last_none p xs h = list_any_none p xs (λ k d lt.
    let long = length-reverse xs in
    let back = get_or-reverse xs (length xs - 1 - k) d (omega arith) in
    let here : length xs - 1 - (length xs - 1 - k) ≡ k = omega arith in
    let passes = prefix_len_passes (λ x. not (p x)) (reverse xs) (length xs - 1 - k) d (omega arith) in
    not-true (p (get_or xs k d)) (subst (λ n. not (p (get_or xs n d)) ≡ true) here (subst (λ x. not (p x) ≡ true) back passes)))

no_front : {A : Type 0} (xs : List A) → prefix_len (λ x. false) xs ≡ 0
no_front [] = refl
no_front (x ∷ xs) = refl

-- the gap behind all entries
pub end_behind : {A : Type 0} (parts : List (List A)) (spot : Spot) → LastAt (Some spot) (λ (e : A). true) parts → IsGapAt (Behind spot) (length (flat parts)) parts
end_behind parts spot h =
    let all_pass = no_front (reverse (flat parts)) in
    let ends = h.1 in
    (h.0, omega arith)

pub end_only : {A : Type 0} (parts : List (List A)) → LastAt None (λ (e : A). true) parts → IsGapAt Only (length (flat parts)) parts
end_only parts h =
    let empty : length (flat parts) ≡ 0 = sym h ∙ no_front (reverse (flat parts)) in
    (empty, empty)

module _ (s : Sought) (row : Row) (parts : List (List (Entry StoredItem))) (law : ContentsHaveKeys) (is : IsSoughtRow s.file row s.text s) (all : All (IsStored s.file s.text) (flat parts)) where
  all_follow : All (λ e. comes_behind s e ≡ row_passes (follows s.file row) (stored_at s.file s.text e)) (flat parts)
  all_follow = All-weaker (IsStored s.file s.text) (λ e. comes_behind s e ≡ row_passes (follows s.file row) (stored_at s.file s.text e)) (λ e h. behind_found s.file s.text e row s law is h) (flat parts) all

  all_alike : All (λ e. is_alike s e ≡ row_passes (same_group s.file row) (stored_at s.file s.text e)) (flat parts)
  all_alike = All-weaker (IsStored s.file s.text) (λ e. is_alike s e ≡ row_passes (same_group s.file row) (stored_at s.file s.text e)) (λ e h. alike_found s.file s.text e row s law is h) (flat parts) all

  follow_any : list_any (comes_behind s) (flat parts) ≡ list_any (row_passes (follows s.file row)) (map (stored_at s.file s.text) (flat parts))
  follow_any = any_moved (comes_behind s) (row_passes (follows s.file row)) (stored_at s.file s.text) (flat parts) all_follow

  pub alike_any : list_any (is_alike s) (flat parts) ≡ list_any (row_passes (same_group s.file row)) (map (stored_at s.file s.text) (flat parts))
  alike_any = any_moved (is_alike s) (row_passes (same_group s.file row)) (stored_at s.file s.text) (flat parts) all_alike

  place_following : is_missing_in s.file row ≡ false → (spot : Spot) → FirstAt (Some spot) (comes_behind s) parts → place_in s.file row (map (stored_at s.file s.text) (flat parts)) ≡ place parts spot
  place_following plain spot h =
      let some = sym follow_any ∙ first_some (comes_behind s) parts spot nothing h in
      rw (plain, some) (sym (first_moved (comes_behind s) (row_passes (follows s.file row)) (stored_at s.file s.text) (flat parts) all_follow) ∙ h.1)

  pub gap_behind : is_missing_in s.file row ≡ false → (spot before : Spot) → FirstAt (Some spot) (comes_behind s) parts → IsBefore (Some before) spot parts → IsGapAt (Behind before) (place_in s.file row (map (stored_at s.file s.text) (flat parts))) parts
  gap_behind plain spot before h b = (b.0, b.1 ∙ sym (place_following plain spot h))

  pub gap_front : is_missing_in s.file row ≡ false → (spot : Spot) → FirstAt (Some spot) (comes_behind s) parts → IsBefore None spot parts → IsGapAt (Front spot) (place_in s.file row (map (stored_at s.file s.text) (flat parts))) parts
  gap_front plain spot h b = (h.0, b, place_following plain spot h ∙ b)

  pub gap_group : is_missing_in s.file row ≡ false → (spot : Spot) → FirstAt None (comes_behind s) parts → LastAt (Some spot) (is_alike s) parts → IsGapAt (Behind spot) (place_in s.file row (map (stored_at s.file s.text) (flat parts))) parts
  gap_group plain spot none h =
      let no = sym follow_any ∙ first_none (comes_behind s) parts none in
      let some = sym alike_any ∙ last_some (is_alike s) parts spot nothing h in
      let behind = last_moved (is_alike s) (row_passes (same_group s.file row)) (stored_at s.file s.text) (flat parts) all_alike in
      let long = length-map (flat parts) (stored_at s.file s.text) in
      let ends = h.1 in
      (h.0, rw (plain, no, some) (omega arith))

  pub place_last : is_missing_in s.file row ≡ false → FirstAt None (comes_behind s) parts → LastAt None (is_alike s) parts → place_in s.file row (map (stored_at s.file s.text) (flat parts)) ≡ length (flat parts)
  place_last plain none other =
      let no = sym follow_any ∙ first_none (comes_behind s) parts none in
      let apart = sym alike_any ∙ last_none (is_alike s) (flat parts) other in
      rw (plain, no, apart) (length-map (flat parts) (stored_at s.file s.text))

  -- a group that has no row
  pub place_new : (seen_hashes : SeenNumbers) → is_missing_in s.file row ≡ false → may_have seen_hashes (group_hash s.group) ≡ false → AreNoted s.file seen_hashes (map (stored_at s.file s.text) (flat parts)) → place_in s.file row (map (stored_at s.file s.text) (flat parts)) ≡ length (flat parts)
  place_new seen_hashes plain lacks noted =
      let items = map (stored_at s.file s.text) (flat parts) in
      let none : may_have seen_hashes (group_hash (group_of s.file row)) ≡ false = rw (← is.group) lacks in
      let no = follows_nowhere s.file seen_hashes row items none noted in
      let apart = alike_nowhere s.file seen_hashes row items none noted in
      rw (plain, no, apart) (length-map (flat parts) (stored_at s.file s.text))

  -- ---- a missing row

  pub missing_group : is_missing_in s.file row ≡ true → (spot : Spot) → LastAt (Some spot) (is_alike s) parts → IsGapAt (Behind spot) (place_in s.file row (map (stored_at s.file s.text) (flat parts))) parts
  missing_group missing spot h =
      let some = sym alike_any ∙ last_some (is_alike s) parts spot nothing h in
      let behind = last_moved (is_alike s) (row_passes (same_group s.file row)) (stored_at s.file s.text) (flat parts) all_alike in
      let long = length-map (flat parts) (stored_at s.file s.text) in
      let ends = h.1 in
      (h.0, rw (missing, some) (omega arith))

  place_first : is_missing_in s.file row ≡ true → LastAt None (is_alike s) parts → place_in s.file row (map (stored_at s.file s.text) (flat parts)) ≡ 0
  place_first missing other =
      let apart = sym alike_any ∙ last_none (is_alike s) (flat parts) other in
      rw (missing, apart) refl

  pub missing_front : is_missing_in s.file row ≡ true → (spot : Spot) → LastAt None (is_alike s) parts → FirstAt (Some spot) (λ e. true) parts → IsGapAt (Front spot) (place_in s.file row (map (stored_at s.file s.text) (flat parts))) parts
  missing_front missing spot other h = (h.0, sym h.1 ∙ at_start (flat parts), place_first missing other)
    where
      at_start : {A : Type 0} (xs : List A) → position_or_len (λ x. true) xs ≡ 0
      at_start [] = refl
      at_start (x ∷ xs) = refl

  pub missing_only : is_missing_in s.file row ≡ true → LastAt None (is_alike s) parts → FirstAt None (λ e. true) parts → IsGapAt Only (place_in s.file row (map (stored_at s.file s.text) (flat parts))) parts
  missing_only missing other h = (empty (flat parts) (first_none (λ e. true) parts h), place_first missing other)
    where
      empty : (xs : List (Entry StoredItem)) → list_any (λ x. true) xs ≡ false → length xs ≡ 0
      empty [] e = refl
      empty (x ∷ xs) e = absurd cc
