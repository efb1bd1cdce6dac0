-- The order of places.
use Rattle.std.proofs.Common.{◌≡◌, ℕ, ◌≤◌, true, false, ◌==◌, List, refl, sym, ap, ◌∙◌, arith, Ordering, Less, Equal, Greater, nat_cmp, is_eq, is_lt, is_gt}
use Rattle.std.specs.Cmp.{IsTotalOrder}
use Rattle.std.specs.Cmp.Lexicographic.{slice_cmp}
use Rattle.std.proofs.lemmas.Bool.{and_parts, eqb-true}
use Rattle.std.proofs.lemmas.Bool.Decides.{nat_tests}
use Rattle.std.proofs.lemmas.Cmp.{then_total, on_total, nat_list_cmp_total, nat_cmp_total, tied_itself, alike_right}
use Rattle.std.proofs.lemmas.Map.Text.{is_eq-slice_cmp}
use Rattle.ucd_points.specs.PlainProofs.{equal_is}
use Rattle.source_rows.specs.Keys.{same_texts}
use Rattle.release_rows.specs.Extents.{same_start}
use Rattle.release_rows.specs.Places.{names_in, place_cmp, extent_at}
use Rattle.release_rows.specs.declared.sort_key.SortKey.{SortKey}
use Rattle.release_rows.proofs.Texts.{is_eq-then, texts_same, texts_tell_names}

pub place_total : IsTotalOrder place_cmp
place_total = then_total (on_total (λ (p : SortKey). p.names.items) nat_list_cmp_total) (on_total (λ (p : SortKey). p.code) nat_cmp_total)

-- by the names alone
abbrev pub by_names : SortKey → SortKey → Ordering
by_names a b = slice_cmp nat_cmp a.names.items b.names.items

names_total : IsTotalOrder by_names
names_total = on_total (λ (p : SortKey). p.names.items) nat_list_cmp_total

pub names_tell : (a b : SortKey) → is_eq (by_names a b) ≡ same_texts (names_in a) (names_in b)
names_tell a b = is_eq-slice_cmp a.names.items b.names.items ∙ texts_tell_names a.names.items b.names.items

nat_tells : (x y : ℕ) → is_eq (nat_cmp x y) ≡ (x == y)
nat_tells x y = grind (arith, nat_tests)

-- places that compare alike are the same key
pub starts_tell : (a b : SortKey) (x y : ℕ) → is_eq (place_cmp a b) ≡ same_start (extent_at a x) (extent_at b y)
starts_tell a b x y = is_eq-then (by_names a b) (nat_cmp a.code b.code) ∙ rw (names_tell a b, nat_tells a.code b.code) refl

-- the names of a place are the same as themselves
pub itself : (a : SortKey) → same_texts (names_in a) (names_in a) ≡ true
itself a = sym (names_tell a a) ∙ ap is_eq (tied_itself names_total a)

pub alike : (a b : SortKey) → names_in a ≡ names_in b → by_names a b ≡ Equal
alike a b h = equal_is (by_names a b) (names_tell a b ∙ ap (λ (ns : List (List ℕ)). same_texts (names_in a) ns) (sym h) ∙ itself a)

pub is_alike : (a b : SortKey) → by_names a b ≡ Equal → names_in a ≡ names_in b
is_alike a b h = texts_same (names_in a) (names_in b) (sym (names_tell a b) ∙ ap is_eq h)

pub record SameKey (a b : SortKey) : Type 0 where
  pub names : names_in a ≡ names_in b
  pub code : a.code ≡ b.code

pub equal_keys : (a b : SortKey) → is_eq (place_cmp a b) ≡ true → SameKey a b
equal_keys a b h =
    let parts = and_parts (same_texts (names_in a) (names_in b)) (a.code == b.code) (sym (starts_tell a b 0 0) ∙ h) in
    record { names = texts_same _ _ parts.0; code = eqb-true _ _ parts.1 }

pub same_keys : (a b : SortKey) → names_in a ≡ names_in b → a.code ≡ b.code → place_cmp a b ≡ Equal
same_keys a b names code = rw (alike a b names, code) (tied_itself nat_cmp_total b.code)

not_above : (x y : ℕ) → x ≤ y → is_gt (nat_cmp x y) ≡ false
not_above x y h = grind (arith, nat_tests)

at_most : (x y : ℕ) → is_gt (nat_cmp x y) ≡ false → x ≤ y
at_most x y h = grind (arith, nat_tests)

at_least : (x y : ℕ) → is_lt (nat_cmp x y) ≡ false → y ≤ x
at_least x y h = grind (arith, nat_tests)

-- a place of these names, up to their last code point
pub is_before : (a end : SortKey) → names_in a ≡ names_in end → a.code ≤ end.code → is_gt (place_cmp a end) ≡ false
is_before a end names h = rw (alike a end names) (not_above a.code end.code h)

pub before_same : (e end : SortKey) → names_in e ≡ names_in end → is_gt (place_cmp e end) ≡ false → e.code ≤ end.code
before_same e end names h = at_most e.code end.code (rw (alike e end names) at h)

pub record IsBetween (a e end : SortKey) : Type 0 where
  pub names : names_in e ≡ names_in end
  pub from : a.code ≤ e.code
  pub to : e.code ≤ end.code

between_by : (a e end : SortKey) → names_in a ≡ names_in end → (o : Ordering) → by_names e end ≡ o → is_lt (place_cmp e a) ≡ false → is_gt (place_cmp e end) ≡ false → IsBetween a e end
between_by a e end names Less h lt gt =
    let low : by_names e a ≡ Less = alike_right names_total a end e (alike a end names) ∙ h in
    absurd (let k = rw low at lt in cc)
between_by a e end names Greater h lt gt = absurd (let k = rw h at gt in cc)
between_by a e end names Equal h lt gt =
    let low : by_names e a ≡ Equal = alike_right names_total a end e (alike a end names) ∙ h in
    record { names = is_alike e end h; from = at_least e.code a.code (rw low at lt); to = at_most e.code end.code (rw h at gt) }

-- what lies between a place and the end of its names has these names
pub between : (a e end : SortKey) → names_in a ≡ names_in end → is_lt (place_cmp e a) ≡ false → is_gt (place_cmp e end) ≡ false → IsBetween a e end
between a e end names lt gt = between_by a e end names (by_names e end) refl lt gt
