-- Numbers of names, and the spans of each number.
-- bucket buckets i       list i, counted from 0
-- is_of i c row          the row has number i, and covers c
-- same_number            where names differ, two numbers are one where their names are
-- default_is_first       a default that names stand behind is number 0
use Rattle.std.proofs.Common.{◌≡◌, ℕ, zero, suc, ◌<◌, Bool, true, false, if◌then◌else◌, ◌&&◌, List, [], ◌∷◌, ◌++◌, fold, map, length, Some, refl, sym, ◌∙◌, arith, nat_eq, slice_get, slice_index_or, bytes_eq, true≢false}
use Rattle.std.proofs.Math.Dec.{eqb-suc-suc, eqb-suc-zero, eqb-zero-suc}
use Rattle.std.specs.List.{AllByRecursion, IsDistinct, list_any}
use Rattle.std.proofs.lemmas.Map.Keys.{IsDistinct-head, IsDistinct-tail}
use Rattle.std.proofs.lemmas.Slice.Eq.{bytes_eq-Decides}
use Rattle.ucd_points.specs.Bounds.{Bounds}
use Rattle.ucd_facts.specs.Facts.{within}
use Rattle.property_aliases.specs.Sources.{add_name}
use Rattle.property_aliases.specs.declared.file_values.NumberedRow.{NumberedRow}

abbrev pub bucket : List (List Bounds) → ℕ → List Bounds
bucket buckets i = slice_index_or buckets i []

abbrev pub is_of : ℕ → ℕ → NumberedRow → Bool
is_of i c row = nat_eq row.number i && within c row.span

-- ---- numbers of names that differ

each_at : {K : Type 0} (P : K → Bool) (bytes : K → List ℕ) (q : List ℕ → Bool) (ks : List K) (i : ℕ) → ((k : K) → P k ≡ q (bytes k)) → AllByRecursion (λ k. P k ≡ false) ks → i < length ks → q (slice_index_or (map bytes ks) i []) ≡ false
each_at P bytes q [] i same all lt = absurd (omega (arith, lt))
each_at P bytes q (k ∷ ks) zero same all lt = sym (same k) ∙ all.0
each_at P bytes q (k ∷ ks) (suc i) same all lt = each_at P bytes q ks i same all.1 (omega (arith, lt))

turned : (a b : List ℕ) → bytes_eq a b ≡ false → bytes_eq b a ≡ false
turned a b e = go (bytes_eq b a) refl
  where
    go : (t : Bool) → bytes_eq b a ≡ t → bytes_eq b a ≡ false
    go true h = absurd (true≢false (sym ((bytes_eq-Decides a b).1 (sym ((bytes_eq-Decides b a).0 h))) ∙ e))
    go false h = h

module _ {K : Type 0} (bytes : K → List ℕ) where
  abbrev pub alike : K → K → Bool
  alike x y = bytes_eq (bytes x) (bytes y)

  pub same_number : (ks : List K) (n i : ℕ) → IsDistinct alike ks → n < length ks → i < length ks → nat_eq n i ≡ bytes_eq (slice_index_or (map bytes ks) n []) (slice_index_or (map bytes ks) i [])
  same_number [] n i differ lt below = absurd (omega (arith, lt))
  same_number (k ∷ ks) zero zero differ lt below = sym ((bytes_eq-Decides (bytes k) (bytes k)).1 refl)
  same_number (k ∷ ks) zero (suc i) differ lt below = eqb-zero-suc i ∙ sym (each_at (alike k) bytes (bytes_eq (bytes k)) ks i (λ x. refl) (IsDistinct-head alike k ks differ) (omega (arith, below)))
  same_number (k ∷ ks) (suc n) zero differ lt below =
      eqb-suc-zero n
      ∙ sym (turned (bytes k) (slice_index_or (map bytes ks) n []) (each_at (alike k) bytes (bytes_eq (bytes k)) ks n (λ x. refl) (IsDistinct-head alike k ks differ) (omega (arith, lt))))
  same_number (k ∷ ks) (suc n) (suc i) differ lt below = eqb-suc-suc n i ∙ same_number ks n i (IsDistinct-tail alike k ks differ) (omega (arith, lt)) (omega (arith, below))

-- ---- the default

stays_first : (more : List (List ℕ)) (name : List ℕ) (names : List (List ℕ)) → slice_get (fold add_name (name ∷ names) more) 0 ≡ Some name
stays_first [] name names = refl
stays_first (m ∷ more) name names = by (list_any (bytes_eq m) (name ∷ names)) (λ names. stays_first more name names)
  where
    by : (b : Bool) → ((names : List (List ℕ)) → slice_get (fold add_name (name ∷ names) more) 0 ≡ Some name) → slice_get (fold add_name (if b then name ∷ names else (name ∷ names) ++ m ∷ []) more) 0 ≡ Some name
    by true later = later names
    by false later = later (names ++ m ∷ [])

pub default_is_first : (default : List ℕ) (more : List (List ℕ)) → slice_get (fold add_name [] (default ∷ more)) 0 ≡ Some default
default_is_first default more = stays_first more default []
