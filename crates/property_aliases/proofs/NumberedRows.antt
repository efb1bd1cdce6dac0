-- Rows by the numbers of their values.
-- known            a name that has a number is there
-- numbered_more    one row more, with a name that is there or goes last
-- numbered_still   no row more, but such a name
use Rattle.std.proofs.Common.{◌≡◌, ℕ, zero, suc, Bool, true, false, if◌then◌else◌, ◌||◌, List, [], ◌∷◌, ◌++◌, Some, None, Result, Ok, Err, OnOk, refl, sym, subst, arith, slice_get, bytes_eq, append-nil}
use Rattle.std.specs.List.{list_any}
use Rattle.std.proofs.lemmas.Option.{slice_get_within, same_Some}
use Rattle.std.proofs.lemmas.Slice.Eq.{bytes_eq-Decides}
use Rattle.indexmap.proofs.SetLemmas.{AllZip-push}
use Rattle.release_rows.specs.StoredItems.{ShowsValue}
use Rattle.source_rows.specs.declared.values.ValueText.{ValueText}
use Rattle.ucd_facts.specs.declared.row.Row.{Row}
use Rattle.ucd_facts.specs.declared.row.Row.TheVariants.{Unit as DataLine, Value as ValueLine, Exclusion as ExclusionLine, Fold as FoldLine, Casing as CasingLine, Alias as AliasLine, Missing as MissingLine}
use Rattle.ucd_facts.specs.declared.row.ValueRow.{ValueRow}
use Rattle.property_aliases.specs.Numbers.{AreNumbered, IsNumbered}
use Rattle.property_aliases.specs.Sources.{add_name, missing_row_of, value_row_of}
use Rattle.property_aliases.specs.declared.file_values.NumberedRow.{NumberedRow}

-- ---- names

any_at : (names : List (List ℕ)) (k : ℕ) (value : List ℕ) → slice_get names k ≡ Some value → list_any (bytes_eq value) names ≡ true
any_at [] k value e = absurd (let lt = slice_get_within [] k value e in omega (arith, lt))
any_at (x ∷ xs) zero value e = rw ((bytes_eq-Decides value x).1 (sym (same_Some x value e))) refl
any_at (x ∷ xs) (suc k) value e = by (bytes_eq value x) (any_at xs k value e)
  where
    by : (b : Bool) → list_any (bytes_eq value) xs ≡ true → b || list_any (bytes_eq value) xs ≡ true
    by true e = refl
    by false e = e

pub known : (names : List (List ℕ)) (k : ℕ) (value : List ℕ) → slice_get names k ≡ Some value → add_name names value ≡ names
known names k value e = rw (any_at names k value e) refl

get_more : (names more : List (List ℕ)) (k : ℕ) (value : List ℕ) → slice_get names k ≡ Some value → slice_get (names ++ more) k ≡ Some value
get_more [] more k value e = absurd (let lt = slice_get_within [] k value e in omega (arith, lt))
get_more (x ∷ xs) more zero value e = e
get_more (x ∷ xs) more (suc k) value e = get_more xs more k value e

stays : (names : List (List ℕ)) (name : List ℕ) (k : ℕ) (value : List ℕ) → slice_get names k ≡ Some value → slice_get (add_name names name) k ≡ Some value
stays names name k value e = by (list_any (bytes_eq name) names)
  where
    by : (b : Bool) → slice_get (if b then names else names ++ name ∷ []) k ≡ Some value
    by true = e
    by false = get_more names (name ∷ []) k value e

-- ---- rows

-- of such a row nothing is missing
pub shown_plain : (row : Row) (text : ValueText) → ShowsValue (Some text) row → missing_row_of row ≡ []
shown_plain (ValueLine row) text e = refl
shown_plain (DataLine row) text e = absurd e
shown_plain (ExclusionLine row) text e = absurd e
shown_plain (FoldLine row) text e = absurd e
shown_plain (CasingLine row) text e = absurd e
shown_plain (AliasLine row) text e = absurd e
shown_plain (MissingLine row) text e = absurd e

pub not_shown : (row : Row) → ShowsValue None row → value_row_of row ≡ []
not_shown (ValueLine row) e = absurd e
not_shown (DataLine row) e = refl
not_shown (ExclusionLine row) e = refl
not_shown (FoldLine row) e = refl
not_shown (CasingLine row) e = refl
not_shown (AliasLine row) e = refl
not_shown (MissingLine row) e = refl

-- rows keep their numbers with one name more
pub all_stay : (names : List (List ℕ)) (name : List ℕ) (rs : List NumberedRow) (rows : List ValueRow) → AreNumbered names rs rows → AreNumbered (add_name names name) rs rows
all_stay names name [] [] h = h
all_stay names name [] (row ∷ rows) h = absurd h
all_stay names name (r ∷ rs) [] h = absurd h
all_stay names name (r ∷ rs) (row ∷ rows) h = (record { number = stays names name r.number row.value h.0.number; span = h.0.span }, all_stay names name rs rows h.1)

pub numbered_more : (names : List (List ℕ)) (rs : List NumberedRow) (above : List ValueRow) (r : NumberedRow) (row : ValueRow) → AreNumbered names rs above → IsNumbered (add_name names row.value) r row
    → AreNumbered (add_name names row.value) (rs ++ r ∷ []) (above ++ row ∷ [])
numbered_more names rs above r row h is = AllZip-push (IsNumbered (add_name names row.value)) rs above r row (all_stay names row.value rs above h) is

pub numbered_still : (names : List (List ℕ)) (name : List ℕ) (rs : List NumberedRow) (above more : List ValueRow) → more ≡ [] → AreNumbered names rs above → AreNumbered (add_name names name) rs (above ++ more)
numbered_still names name rs above more none h =
    subst (λ (rows : List ValueRow). AreNumbered (add_name names name) rs (above ++ rows)) (sym none)
    (subst (AreNumbered (add_name names name) rs) (sym (append-nil above)) (all_stay names name rs above h))

-- ---- answers
