-- Which rule a row breaks against extents that lie apart: its key, and the last extent of its names that begins no
-- later than it ends, tell.
use Rattle.std.proofs.Common.{◌≡◌, ℕ, ◌<◌, ◌≤◌, Bool, true, false, cond, ◌||◌, leb, List, [], ◌∷◌, map, Some, None, is_some, refl, sym, ap, ◌∙◌, arith, inl, inr, Ordering, Less, Equal, Greater}
use Rattle.std.specs.List.{list_any}
use Rattle.std.specs.Map.{lookup}
use Rattle.std.specs.Ordering.{is_eq, is_lt, is_gt, match_ordering}
use Rattle.std.specs.BTreeMap.{BTreeMap, get, is_at, IsOrdered, insert_entry}
use Rattle.std.proofs.lemmas.Bool.{and_parts, and_from, leb-true, le-leb, false_from_ne_true, cases_lt}
use Rattle.source_rows.specs.Keys.{same_texts}
use Rattle.release_rows.specs.Extents.{Extent, same_start, meets, conflict_with}
use Rattle.release_rows.specs.Places.{names_in, place_cmp, extent_at, extent_of, AreApart}
use Rattle.release_rows.specs.declared.sort_key.SortKey.{SortKey}
use Rattle.release_rows.specs.declared.conflict.Conflict.TheVariants.{K1, K4}
use Rattle.release_rows.proofs.Texts.{texts_same}
use Rattle.release_rows.proofs.PlaceOrder.{itself, same_keys, equal_keys, is_before, before_same, between}
use Rattle.release_rows.proofs.Found.{starts_any, found_any, any_found, finds_same}

-- the place behind which nothing of these names meets the row
abbrev pub end_of : SortKey → ℕ → SortKey
end_of place last = record { names = place.names; code = last }

record Meeting (place : SortKey) (last : ℕ) (key : SortKey) (y : ℕ) : Type 0 where
  names : names_in key ≡ names_in place
  reaches : place.code ≤ y
  begins : key.code ≤ last

meeting : (place key : SortKey) (last y : ℕ) → meets (extent_at place last) (extent_at key y) ≡ true → Meeting place last key y
meeting place key last y h =
    let parts = and_parts (same_texts (names_in place) (names_in key)) _ h in
    let bounds = and_parts (leb place.code y) (leb key.code last) parts.1 in
    record { names = sym (texts_same _ _ parts.0); reaches = leb-true _ _ bounds.0; begins = leb-true _ _ bounds.1 }

pub key_there : (es : List (SortKey × ℕ)) (place : SortKey) (last : ℕ) → is_some (lookup (is_at (place_cmp place)) es) ≡ true → conflict_with (map extent_of es) (extent_at place last) ≡ Some K1
key_there es place last h = rw (starts_any place last es, h) refl

pub overlap_alone : (es : List (SortKey × ℕ)) (place : SortKey) (last : ℕ) → is_some (lookup (is_at (place_cmp place)) es) ≡ false → list_any (meets (extent_at place last)) (map extent_of es) ≡ true → conflict_with (map extent_of es) (extent_at place last) ≡ Some K4
overlap_alone es place last h overlap = rw (starts_any place last es, h, overlap) refl

module _ (m : BTreeMap SortKey ℕ) (ordered : IsOrdered place_cmp m) (apart : AreApart m) (place : SortKey) (last : ℕ) where
  no_start : is_some (get place_cmp m place) ≡ false → list_any (same_start (extent_at place last)) (map extent_of m.entries) ≡ false
  no_start h = starts_any place last m.entries ∙ h

  none_if : is_some (get place_cmp m place) ≡ false → ((key : SortKey) (y : ℕ) → get place_cmp m key ≡ Some y → Meeting place last key y → ⊥) → conflict_with (map extent_of m.entries) (extent_at place last) ≡ None
  none_if absent none =
      let no_meeting : list_any (meets (extent_at place last)) (map extent_of m.entries) ≡ false = false_from_ne_true _ (λ some. let f = any_found (meets (extent_at place last)) m ordered some in none f.key f.last f.found (meeting place f.key last f.last f.passes)) in
      rw (no_start absent, no_meeting) refl

  pub nothing_before : place.code ≤ last → ((q : SortKey) → is_gt (place_cmp q (end_of place last)) ≡ false → get place_cmp m q ≡ None) → conflict_with (map extent_of m.entries) (extent_at place last) ≡ None
  nothing_before le none = none_if (ap is_some (none place (is_before place (end_of place last) refl le))) (λ key y found meet. let nowhere = none key (is_before key (end_of place last) meet.names meet.begins) in absurd (let e : Some y ≡ None = sym found ∙ nowhere in cc))

  module _ (e : SortKey) (reached : ℕ) (found : get place_cmp m e ≡ Some reached) (before : is_gt (place_cmp e (end_of place last)) ≡ false) where
    pub it_reaches : same_texts (names_in e) (names_in place) ≡ true → place.code ≤ reached → list_any (meets (extent_at place last)) (map extent_of m.entries) ≡ true
    it_reaches names reaches =
        let same : names_in e ≡ names_in place = texts_same _ _ names in
        let begins : e.code ≤ last = before_same e (end_of place last) same before in
        let shared : meets (extent_at place last) (extent_at e reached) ≡ true = and_from _ _ (ap (λ (ns : List (List ℕ)). same_texts (names_in place) ns) same ∙ itself place) (and_from _ _ (le-leb _ _ reaches) (le-leb _ _ begins)) in
        found_any (meets (extent_at place last)) e reached m.entries found shared

    -- the key would stand between the place and the extent that ends before it
    absent_behind : place.code ≤ last → ((q : SortKey) → is_gt (place_cmp q (end_of place last)) ≡ false → is_some (get place_cmp m q) ≡ true → is_lt (place_cmp e q) ≡ false) → (names_in e ≡ names_in place → reached < place.code) → is_some (get place_cmp m place) ≡ false
    absent_behind le greatest ends = false_from_ne_true _ (λ some.
        let lies = between place e (end_of place last) refl (greatest place (is_before place (end_of place last) refl le) some) before in
        let short : reached < place.code = ends lies.names in
        let long : e.code ≤ reached = apart.ordered e reached found in
        absurd (omega (arith, lies.from)))

    pub it_ends : place.code ≤ last → ((q : SortKey) → is_gt (place_cmp q (end_of place last)) ≡ false → is_some (get place_cmp m q) ≡ true → is_lt (place_cmp e q) ≡ false) → (names_in e ≡ names_in place → reached < place.code) → conflict_with (map extent_of m.entries) (extent_at place last) ≡ None
    it_ends le greatest ends = none_if (absent_behind le greatest ends) (λ key y at meet.
        let lies = between key e (end_of place last) meet.names (greatest key (is_before key (end_of place last) meet.names meet.begins) (ap is_some at)) before in
        let short : reached < place.code = ends lies.names in
        let long : e.code ≤ reached = apart.ordered e reached found in
        elim (cases_lt key.code e.code) [
          | inl lt ↦ let stops : y < e.code = apart.apart key e y reached at found (meet.names ∙ sym lies.names) lt in absurd (omega (arith, meet.reaches))
          | inr ge ↦
              let code : key.code ≡ e.code = omega (arith, lies.from) in
              let one : Some y ≡ Some reached = sym at ∙ finds_same key e (ap is_eq (same_keys key e (meet.names ∙ sym lies.names) code)) m.entries ∙ found in
              let same : y ≡ reached = cc in
              absurd (omega (arith, meet.reaches))
        ])

-- ---- one more extent that breaks no rule

-- the rules that are not broken
pub record BreaksNone (above : List Extent) (x : Extent) : Type 0 where
  pub no_start : list_any (same_start x) above ≡ false
  pub no_meeting : list_any (meets x) above ≡ false

pub none_by : (a b : Bool) → cond a (Some K1) (cond b (Some K4) None) ≡ None → (a ≡ false) × (b ≡ false)
none_by true b h = absurd cc
none_by false true h = absurd cc
none_by false false h = (refl, refl)

pub breaks_none : (above : List Extent) (x : Extent) → conflict_with above x ≡ None → BreaksNone above x
breaks_none above x h = let r = none_by (list_any (same_start x) above) (list_any (meets x) above) h in record { no_start = r.0; no_meeting = r.1 }

-- what is found does not meet an extent that breaks no rule
apart_from : (m : BTreeMap SortKey ℕ) (place : SortKey) (last : ℕ) → BreaksNone (map extent_of m.entries) (extent_at place last) → (q : SortKey) (y : ℕ) → get place_cmp m q ≡ Some y → names_in q ≡ names_in place → place.code ≤ y → q.code ≤ last → ⊥
apart_from m place last b q y found names reaches begins =
    let shared : meets (extent_at place last) (extent_at q y) ≡ true = and_from _ _ (ap (λ (ns : List (List ℕ)). same_texts (names_in place) ns) names ∙ itself place) (and_from _ _ (le-leb _ _ reaches) (le-leb _ _ begins)) in
    let any = found_any (meets (extent_at place last)) q y m.entries found shared in
    absurd (let e : true ≡ false = sym any ∙ b.no_meeting in cc)

-- what the new map has at a key: the new extent, or what the old one has
data Has (m : BTreeMap SortKey ℕ) (place : SortKey) (last : ℕ) (q : SortKey) (x : ℕ) : Type 0 where
  new : names_in q ≡ names_in place → q.code ≡ place.code → x ≡ last → Has m place last q x
  old : get place_cmp m q ≡ Some x → Has m place last q x

has_by : (m : BTreeMap SortKey ℕ) (place : SortKey) (last : ℕ) (q : SortKey) (x : ℕ) (b : Bool) → is_at (place_cmp place) q ≡ b → cond b (Some last) (get place_cmp m q) ≡ Some x → Has m place last q x
has_by m place last q x true at h = let same = equal_keys place q at in new (sym same.names) (sym same.code) cc
has_by m place last q x false at h = old h

module _ (m n : BTreeMap SortKey ℕ) (place : SortKey) (last : ℕ) (ordered : place.code ≤ last) (free : BreaksNone (map extent_of m.entries) (extent_at place last)) (apart : AreApart m) (updates : (q : SortKey) → get place_cmp n q ≡ cond (is_at (place_cmp place) q) (Some last) (get place_cmp m q)) where
  has : (q : SortKey) (x : ℕ) → get place_cmp n q ≡ Some x → Has m place last q x
  has q x h = has_by m place last q x (is_at (place_cmp place) q) refl (sym (updates q) ∙ h)

  stays_ordered : (a : SortKey) (x : ℕ) → Has m place last a x → a.code ≤ x
  stays_ordered a x (new names code value) = omega (arith, code, value, ordered)
  stays_ordered a x (old found) = apart.ordered a x found

  stays_apart : (a b : SortKey) (x y : ℕ) → Has m place last a x → Has m place last b y → names_in a ≡ names_in b → a.code < b.code → x < b.code
  stays_apart a b x y (new names code value) (new names' code' value') same lt = absurd (omega (arith, code, code'))
  stays_apart a b x y (new names code value) (old found) same lt =
      elim (cases_lt x b.code) [
        | inl below ↦ below
        | inr reaches ↦ absurd (apart_from m place last free b y found (sym same ∙ names) (let o = apart.ordered b y found in omega (arith, code)) (omega (arith, value)))
      ]
  stays_apart a b x y (old found) (new names code value) same lt =
      elim (cases_lt x b.code) [
        | inl below ↦ below
        | inr reaches ↦ absurd (apart_from m place last free a x found (same ∙ names) (omega (arith, code)) (omega (arith, code, ordered)))
      ]
  stays_apart a b x y (old found) (old found') same lt = apart.apart a b x y found found' same lt

  pub still_apart : AreApart n
  still_apart = record { ordered = λ a x h. stays_ordered a x (has a x h); apart = λ a b x y h k same lt. stays_apart a b x y (has a x h) (has b y k) same lt }

pub swapped : (a b c : Bool) → (b || (a || c)) ≡ (a || (b || c))
swapped true true c = refl
swapped true false c = refl
swapped false true c = refl
swapped false false c = refl

insert_step : (p : Extent → Bool) (place : SortKey) (last : ℕ) (e : SortKey × ℕ) (es : List (SortKey × ℕ)) (o : Ordering) → place_cmp place e.0 ≡ o → is_some (cond (is_eq o) (Some e.1) (lookup (is_at (place_cmp place)) es)) ≡ false → (is_some (lookup (is_at (place_cmp place)) es) ≡ false → list_any p (map extent_of (insert_entry place_cmp es place last)) ≡ (p (extent_at place last) || list_any p (map extent_of es))) → list_any p (map extent_of (match_ordering o ((place, last) ∷ e ∷ es) ((e.0, last) ∷ es) (e ∷ insert_entry place_cmp es place last))) ≡ (p (extent_at place last) || (p (extent_of e) || list_any p (map extent_of es)))
insert_step p place last e es Less at absent later = refl
insert_step p place last e es Equal at absent later = absurd cc
insert_step p place last e es Greater at absent later = rw (later absent) (swapped (p (extent_at place last)) (p (extent_of e)) _)

pub any_inserted : (p : Extent → Bool) (place : SortKey) (last : ℕ) (es : List (SortKey × ℕ)) → is_some (lookup (is_at (place_cmp place)) es) ≡ false → list_any p (map extent_of (insert_entry place_cmp es place last)) ≡ (p (extent_at place last) || list_any p (map extent_of es))
any_inserted p place last [] absent = refl
any_inserted p place last (e ∷ es) absent = insert_step p place last e es (place_cmp place e.0) refl absent (λ h. any_inserted p place last es h)

pub is_absent : (place : SortKey) (last : ℕ) (es : List (SortKey × ℕ)) → BreaksNone (map extent_of es) (extent_at place last) → is_some (lookup (is_at (place_cmp place)) es) ≡ false
is_absent place last es free = sym (starts_any place last es) ∙ free.no_start
