-- What rows give to a code point, by the numbers of values.
-- given names rows i c                   a row with the name of number i covers c; never where the number is not used
-- given_or_default d names rows i c      the same, or no row covers c and the name is d
-- buckets_are                            the spans of number i are those of its name
-- defaults_are                           the set of number 0, the default, has what no row covers too
-- numbers_are                            where a number is that of a value, it is number i where the value is the name of number i
-- spans_cover                            the spans of rows are what they cover
-- pushed                                 one set more
use Rattle.std.proofs.Common.{◌≡◌, ℕ, zero, suc, ◌<◌, ◌≤◌, Bool, true, false, not, ◌&&◌, ◌||◌, List, [], ◌∷◌, ◌++◌, map, length, Some, refl, sym, ap, ◌∙◌, arith, inl, inr, slice_get, slice_index_or, nat_eq, bytes_eq}
use Rattle.std.specs.List.{IsDistinct, list_any}
use Rattle.std.proofs.Math.ListN.{get_or-eq_default}
use Rattle.std.proofs.lemmas.Bool.{cases_lt}
use Rattle.std.proofs.lemmas.Bool.Decides.{nat_tests}
use Rattle.std.proofs.lemmas.Option.{get_or_from_slice_get, slice_get-get_or, slice_get_past, slice_get_within}
use Rattle.std.specs.Option.{option_map_or}
use Rattle.ucd_points.specs.Bounds.{Bounds}
use Rattle.ucd_facts.specs.Facts.{within}
use Rattle.ucd_facts.specs.declared.row.ValueRow.{ValueRow}
use Rattle.property_aliases.specs.Numbers.{AreNumbered, IsNumbered}
use Rattle.property_aliases.specs.declared.file_values.NumberedRow.{NumberedRow}
use Rattle.unicodeset_eval.specs.Edges.{Edges, has}
use Rattle.unicodeset_eval.specs.Found.{has_at}
use Rattle.unicodeset_eval.specs.Numbers.{bucket, is_of, same_number}
use Rattle.unicodeset_eval.specs.ValueRows.{covers, gives}

abbrev pub given : List (List ℕ) → List ValueRow → ℕ → ℕ → Bool
given names rows i c = option_map_or (λ name. list_any (gives name c) rows) (slice_get names i) false

abbrev pub given_or_default : List ℕ → List (List ℕ) → List ValueRow → ℕ → ℕ → Bool
given_or_default default names rows i c = option_map_or (λ name. list_any (gives name c) rows || (not (list_any (covers c) rows) && bytes_eq default name)) (slice_get names i) false

-- ---- rows

pub spans_cover : (names : List (List ℕ)) (c : ℕ) (numbered : List NumberedRow) (rows : List ValueRow) → AreNumbered names numbered rows → list_any (within c) (map (λ r. r.span) numbered) ≡ list_any (covers c) rows
spans_cover names c [] [] h = refl
spans_cover names c [] (row ∷ rows) h = absurd h
spans_cover names c (n ∷ numbered) [] h = absurd h
spans_cover names c (n ∷ numbered) (row ∷ rows) h = ap (λ (s : Bounds). within c s || list_any (within c) (map (λ r. r.span) numbered)) h.0.span ∙ ap (λ b. within c row.span || b) (spans_cover names c numbered rows h.1)

pub length_map : {A B : Type 0} (f : A → B) (xs : List A) → length (map f xs) ≡ length xs
length_map f [] = refl
length_map f (x ∷ xs) = ap suc (length_map f xs)

-- ---- the spans of each number

at_name : (f : List ℕ → Bool) (names : List (List ℕ)) (i : ℕ) → i < length names → option_map_or f (slice_get names i) false ≡ f (slice_index_or names i [])
at_name f names i lt = ap (λ o. option_map_or f o false) (slice_get-get_or names i [] lt)

past_names : (f : List ℕ → Bool) (names : List (List ℕ)) (i : ℕ) → length names ≤ i → option_map_or f (slice_get names i) false ≡ false
past_names f names i le = ap (λ o. option_map_or f o false) (slice_get_past names i le)

never_zero : (i : ℕ) → 0 < i → nat_eq 0 i ≡ false
never_zero i lt = grind (arith, nat_tests)

module _ {K : Type 0} (bytes : K → List ℕ) (ks : List K) (differ : IsDistinct (λ x y. bytes_eq (bytes x) (bytes y)) ks) where
  abbrev pub names : List (List ℕ)
  names = map bytes ks

  inside_names : (i : ℕ) → i < length ks → i < length names
  inside_names i lt = let long = length_map bytes ks in omega (arith, lt, long)

  past_keys : (i : ℕ) → length ks ≤ i → length names ≤ i
  past_keys i le = let long = length_map bytes ks in omega (arith, le, long)

  -- a row has number i where its value is the name of number i
  number_is : (i : ℕ) → i < length ks → (n : NumberedRow) (row : ValueRow) → IsNumbered names n row → nat_eq n.number i ≡ bytes_eq row.value (slice_index_or names i [])
  number_is i lt n row is =
      let below : n.number < length names = slice_get_within names n.number row.value is.number in
      let long = length_map bytes ks in
      same_number bytes ks n.number i differ (omega (arith, below, long)) lt
      ∙ ap (λ (v : List ℕ). bytes_eq v (slice_index_or names i [])) (get_or_from_slice_get names n.number row.value [] is.number)

  rows_are : (c i : ℕ) → i < length ks → (numbered : List NumberedRow) (rows : List ValueRow) → AreNumbered names numbered rows → list_any (is_of i c) numbered ≡ list_any (gives (slice_index_or names i []) c) rows
  rows_are c i lt [] [] h = refl
  rows_are c i lt [] (row ∷ rows) h = absurd h
  rows_are c i lt (n ∷ numbered) [] h = absurd h
  rows_are c i lt (n ∷ numbered) (row ∷ rows) h =
      ap (λ b. (b && within c n.span) || list_any (is_of i c) numbered) (number_is i lt n row h.0)
      ∙ ap (λ (s : Bounds). (bytes_eq row.value (slice_index_or names i []) && within c s) || list_any (is_of i c) numbered) h.0.span
      ∙ ap (λ b. gives (slice_index_or names i []) c row || b) (rows_are c i lt numbered rows h.1)

  pub buckets_are : (buckets : List (List Bounds)) (numbered : List NumberedRow) (rows : List ValueRow) (c : ℕ) → AreNumbered names numbered rows → length buckets ≡ length ks →
      ((i : ℕ) → i < length ks → list_any (within c) (bucket buckets i) ≡ list_any (is_of i c) numbered) →
      (i : ℕ) → list_any (within c) (bucket buckets i) ≡ given names rows i c
  buckets_are buckets numbered rows c are long h i = elim (cases_lt i (length ks)) [
    | inl lt ↦
        h i lt ∙ rows_are c i lt numbered rows are
        ∙ sym (at_name (λ name. list_any (gives name c) rows) names i (inside_names i lt))
    | inr le ↦
        let none : bucket buckets i ≡ [] = get_or-eq_default buckets [] (omega (arith, le, long)) in
        ap (list_any (within c)) none ∙ sym (past_names (λ name. list_any (gives name c) rows) names i (past_keys i le))
  ]

  -- where number 0 is the default, and has what no row covers as well
  pub defaults_are : (sets : List Edges) (rows : List ValueRow) (default : List ℕ) → slice_get names 0 ≡ Some default → (c : ℕ) →
      ((i : ℕ) → has_at sets i c ≡ (given names rows i c || (nat_eq 0 i && not (list_any (covers c) rows)))) →
      (i : ℕ) → has_at sets i c ≡ given_or_default default names rows i c
  defaults_are sets rows default first c h i = elim (cases_lt i (length ks)) [
    | inl lt ↦
        let name : List ℕ = slice_index_or names i [] in
        let long = length_map bytes ks in
        let some : 0 < length names = slice_get_within names 0 default first in
        h i
        ∙ ap (λ b. given names rows i c || (b && not (list_any (covers c) rows))) (same_number bytes ks 0 i differ (omega (arith, some, long)) lt)
        ∙ ap (λ (v : List ℕ). given names rows i c || (bytes_eq v name && not (list_any (covers c) rows))) (get_or_from_slice_get names 0 default [] first)
        ∙ ap (λ b. b || (bytes_eq default name && not (list_any (covers c) rows))) (at_name (λ name. list_any (gives name c) rows) names i (inside_names i lt))
        ∙ swap (list_any (gives name c) rows) (bytes_eq default name) (not (list_any (covers c) rows))
        ∙ sym (at_name (λ name. list_any (gives name c) rows || (not (list_any (covers c) rows) && bytes_eq default name)) names i (inside_names i lt))
    | inr le ↦
        let some : 0 < length names = slice_get_within names 0 default first in
        let long = length_map bytes ks in
        let past : nat_eq 0 i ≡ false = never_zero i (omega (arith, le, some, long)) in
        h i
        ∙ ap (λ b. b || (nat_eq 0 i && not (list_any (covers c) rows))) (past_names (λ name. list_any (gives name c) rows) names i (past_keys i le))
        ∙ ap (λ b. b && not (list_any (covers c) rows)) past
        ∙ sym (past_names (λ name. list_any (gives name c) rows || (not (list_any (covers c) rows) && bytes_eq default name)) names i (past_keys i le))
  ]
    where
      swap : (a b d : Bool) → a || (b && d) ≡ a || (d && b)
      swap true b d = refl
      swap false true true = refl
      swap false true false = refl
      swap false false true = refl
      swap false false false = refl

  pub numbers_are : (w : ℕ) (value : List ℕ) → slice_get names w ≡ Some value → (b : Bool) (i : ℕ) → (i < length ks → b ≡ nat_eq w i) → (length ks ≤ i → b ≡ false) → b ≡ option_map_or (λ name. bytes_eq value name) (slice_get names i) false
  numbers_are w value at b i inside past = elim (cases_lt i (length ks)) [
    | inl lt ↦
        let some : w < length names = slice_get_within names w value at in
        let long = length_map bytes ks in
        inside lt
        ∙ same_number bytes ks w i differ (omega (arith, some, long)) lt
        ∙ ap (λ (v : List ℕ). bytes_eq v (slice_index_or names i [])) (get_or_from_slice_get names w value [] at)
        ∙ sym (at_name (λ name. bytes_eq value name) names i (inside_names i lt))
    | inr le ↦ past le ∙ sym (past_names (λ name. bytes_eq value name) names i (past_keys i le))
  ]

-- ---- sets

pub pushed : (s : Edges) (b : List Bounds) (c : ℕ) → has s c ≡ list_any (within c) b → (sets : List Edges) (bs : List (List Bounds)) → length sets ≡ length bs → ((i : ℕ) → has_at sets i c ≡ list_any (within c) (bucket bs i)) →
    (i : ℕ) → has_at (sets ++ s ∷ []) i c ≡ list_any (within c) (bucket (bs ++ b ∷ []) i)
pushed s b c here [] [] e h zero = here
pushed s b c here [] [] e h (suc i) = refl
pushed s b c here [] (y ∷ bs) e h i = absurd (omega (arith, e))
pushed s b c here (x ∷ xs) [] e h i = absurd (omega (arith, e))
pushed s b c here (x ∷ xs) (y ∷ bs) e h zero = h 0
pushed s b c here (x ∷ xs) (y ∷ bs) e h (suc i) = pushed s b c here xs bs (omega (arith, e)) (λ j. h (suc j)) i
