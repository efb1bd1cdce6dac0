-- Which rule a row breaks against runs, and against extents that end before it; and extents with one more.
use Rattle.std.proofs.Common.{◌≡◌, ℕ, suc, ◌+◌, ◌≤◌, Bool, true, false, cond, ◌&&◌, ◌||◌, leb, eqb, max, List, [], ◌∷◌, ◌++◌, length, map, Some, None, refl, sym, ◌∙◌, arith, ◌==◌, bytes_eq}
use Rattle.std.specs.List.{list_any}
use Rattle.std.proofs.lemmas.Bool.Decides.{nat_tests}
use Rattle.std.proofs.lemmas.List.{map-append}
use Rattle.std.proofs.lemmas.List.Folds.{list_any-append}
use Rattle.std.proofs.lemmas.Bool.{or_parts}
use Rattle.source_rows.specs.Keys.{same_texts}
use Rattle.release_rows.specs.Extents.{Extent, same_start, meets, conflict_with}
use Rattle.release_rows.specs.Places.{names_in, extent_at}
use Rattle.release_rows.specs.NamelessSpans.{nameless_extent, is_from, AllBefore}
use Rattle.release_rows.specs.declared.conflict.Conflict.TheVariants.{K1, K4}
use Rattle.release_rows.specs.declared.sort_key.SortKey.{SortKey}
use Rattle.release_rows.specs.declared.nameless_span.NamelessSpan.{NamelessSpan}
use Rattle.release_rows.proofs.Texts.{texts_tell_names}
use Rattle.release_rows.proofs.Apart.{swapped}

-- ---- against runs

not_none : (n : ℕ) → false ≡ (suc n == 0)
not_none n = grind (arith, nat_tests)

empty_text : (bs : List ℕ) → bytes_eq bs [] ≡ (length bs == 0)
empty_text [] = refl
empty_text (b ∷ bs) = not_none (length bs)

module _ (place : SortKey) (last : ℕ) where
  starts_at : (runs : List NamelessSpan) → same_texts (names_in place) [] ≡ true → list_any (same_start (extent_at place last)) (map nameless_extent runs) ≡ list_any (λ (run : NamelessSpan). eqb place.code run.first) runs
  starts_at [] h = refl
  starts_at (run ∷ runs) h = rw (h, starts_at runs h) refl

  reaches : (runs : List NamelessSpan) → same_texts (names_in place) [] ≡ true → list_any (meets (extent_at place last)) (map nameless_extent runs) ≡ list_any (λ (run : NamelessSpan). leb place.code run.last && leb run.first last) runs
  reaches [] h = refl
  reaches (run ∷ runs) h = rw (h, reaches runs h) refl

  no_start : (runs : List NamelessSpan) → same_texts (names_in place) [] ≡ false → list_any (same_start (extent_at place last)) (map nameless_extent runs) ≡ false
  no_start [] h = refl
  no_start (run ∷ runs) h = rw (h, no_start runs h) refl

  no_meeting : (runs : List NamelessSpan) → same_texts (names_in place) [] ≡ false → list_any (meets (extent_at place last)) (map nameless_extent runs) ≡ false
  no_meeting [] h = refl
  no_meeting (run ∷ runs) h = rw (h, no_meeting runs h) refl

  pub named : (runs : List NamelessSpan) → (length place.names.items == 0) ≡ false → conflict_with (map nameless_extent runs) (extent_at place last) ≡ None
  named runs h =
      let other = sym (texts_tell_names place.names.items []) ∙ empty_text place.names.items ∙ h in
      rw (no_start runs other, no_meeting runs other) refl

  pub unnamed : (runs : List NamelessSpan) → (length place.names.items == 0) ≡ true → conflict_with (map nameless_extent runs) (extent_at place last) ≡ cond (list_any (λ (run : NamelessSpan). eqb place.code run.first) runs) (Some K1) (cond (list_any (λ (run : NamelessSpan). leb place.code run.last && leb run.first last) runs) (Some K4) None)
  unnamed runs h =
      let same = sym (texts_tell_names place.names.items []) ∙ empty_text place.names.items ∙ h in
      rw (starts_at runs same, reaches runs same) refl

-- ---- against extents that end before the row

not_met : (names other : List (List ℕ)) (first last end code stop : ℕ) → (leb end first || leb end last) ≡ false → end ≤ code → ((same_texts names other && eqb code first) ≡ false) × ((same_texts names other && (leb code last && leb first stop)) ≡ false)
not_met names other first last end code stop h le = by (same_texts names other)
  where
    by : (b : Bool) → ((b && eqb code first) ≡ false) × ((b && (leb code last && leb first stop)) ≡ false)
    by true = (grind (arith, nat_tests), grind (arith, nat_tests))
    by false = (refl, refl)

module _ (place : SortKey) (last end : ℕ) (le : end ≤ place.code) where
  none_before : (above : List Extent) → AllBefore end above → (list_any (same_start (extent_at place last)) above ≡ false) × (list_any (meets (extent_at place last)) above ≡ false)
  none_before [] h = (refl, refl)
  none_before (x ∷ above) h =
      let parts = or_parts (is_from end x) (list_any (is_from end) above) h in
      let here = not_met (names_in place) x.names x.first x.last end place.code last parts.0 le in
      let rest = none_before above parts.1 in
      (rw (here.0, rest.0) refl, rw (here.1, rest.1) refl)

  pub breaks_none : (above : List Extent) → AllBefore end above → conflict_with above (extent_at place last) ≡ None
  breaks_none above h = let parts = none_before above h in rw (parts.0, parts.1) refl

not_from : (a b first last : ℕ) → a ≤ b → (leb a first || leb a last) ≡ false → (leb b first || leb b last) ≡ false
not_from a b first last le h = grind (arith, nat_tests)

pub before_more : (a b : ℕ) → a ≤ b → (above : List Extent) → AllBefore a above → AllBefore b above
before_more a b le [] h = refl
before_more a b le (x ∷ above) h =
    let parts = or_parts (is_from a x) (list_any (is_from a) above) h in
    rw (not_from a b x.first x.last le parts.0, before_more a b le above parts.1) refl

-- ---- one more extent

turned : (a b c : Bool) → ((b || (a || false)) || c) ≡ (a || (b || c))
turned true true c = refl
turned true false c = refl
turned false true c = refl
turned false false c = refl

-- among the runs
pub any_pushed : (p : Extent → Bool) (runs : List NamelessSpan) (run : NamelessSpan) (ys : List Extent) → list_any p (map nameless_extent (runs ++ run ∷ []) ++ ys) ≡ (p (nameless_extent run) || list_any p (map nameless_extent runs ++ ys))
any_pushed p runs run ys =
    rw (list_any-append p (map nameless_extent (runs ++ run ∷ [])) ys, map-append nameless_extent runs (run ∷ []), list_any-append p (map nameless_extent runs) (nameless_extent run ∷ []), list_any-append p (map nameless_extent runs) ys) (turned (p (nameless_extent run)) (list_any p (map nameless_extent runs)) (list_any p ys))

-- behind the runs
pub any_behind : (p : Extent → Bool) (x : Extent) (xs ys zs : List Extent) → list_any p zs ≡ (p x || list_any p ys) → list_any p (xs ++ zs) ≡ (p x || list_any p (xs ++ ys))
any_behind p x xs ys zs h = rw (list_any-append p xs zs, list_any-append p xs ys, h) (swapped (p x) (list_any p xs) (list_any p ys))

-- the new end is behind all
pub all_before : (end last : ℕ) (x : Extent) (above more : List Extent) → list_any (is_from (max end (last + 1))) more ≡ (is_from (max end (last + 1)) x || list_any (is_from (max end (last + 1))) above) → AllBefore end above → x.first ≤ x.last → x.last ≡ last → AllBefore (max end (last + 1)) more
all_before end last x above more h before ordered is =
    h ∙ rw (ends, before_more end (max end (last + 1)) (omega arith) above before) refl
  where
    ends : is_from (max end (last + 1)) x ≡ false
    ends = grind (arith, nat_tests)
