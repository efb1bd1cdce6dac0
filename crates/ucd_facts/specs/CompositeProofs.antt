-- Proofs of the laws of primary composites, over the points below a variable bound.
-- pair_is_least, pair_is_only, second_is_exact   the laws of the same names
-- Least p a b r     r is the least number from a on and below b that passes the test p; None, and none of them does
-- find_least        what the search among n numbers from a on finds is the least of them
-- find_first        where q, below n, passes a test and no number below q does, the search among the numbers below n finds q
-- find_none_below   where no number below n passes, it finds none
-- pair_of_first     where q composes s and y and no number below q does, the pair of s and y is q
-- pair_of_none      where no code point composes them, they have no pair
-- second_of_some    where y is the second member of a composite's mapping, second_of tells so
-- second_of_none    where y is that of no composite's mapping, second_of is false
use Rattle.std.proofs.Common.{◌≡◌, ℕ, zero, suc, ◌+◌, ◌<◌, ◌≤◌, Bool, true, false, cond, ◌==◌, List, [], ◌∷◌, Option, Some, None, find, refl, sym, ap, ◌∙◌, arith, inl, inr}
use Rattle.std.specs.List.{list_any, range_with_len}
use Rattle.std.proofs.lemmas.Bool.{true≢false, both_ways, cases_lt, and_parts, and_from, or_cases, or_right, eqb-true, eq-eqb, false_from_ne_true}
use Rattle.ucd_points.specs.Limits.{point_count}
use Rattle.ucd_facts.specs.Facts.{Facts}
use Rattle.ucd_facts.specs.Composites.{primary, is_pair, is_second, composes, ends_with, pair_of, second_of}
use Rattle.ucd_facts.specs.CompositeLaws.{Composes, IsPair, IsSecond, PairIsLeast, PairIsOnly, SecondIsExact}

-- ---- the least number that passes a test

abbrev pub Least : (ℕ → Bool) → ℕ → ℕ → Option ℕ → Type 0
Least p a b None = (k : ℕ) → a ≤ k → k < b → p k ≡ false
Least p a b (Some q) = (a ≤ q) × (q < b) × (p q ≡ true) × ((k : ℕ) → a ≤ k → k < q → p k ≡ false)

-- a number that is not a comes after it
from_next : (p : ℕ → Bool) (a q : ℕ) → p a ≡ false → ((k : ℕ) → a + 1 ≤ k → k < q → p k ≡ false) → (k : ℕ) → a ≤ k → k < q → p k ≡ false
from_next p a q here rest k from below =
    elim (cases_lt a k) [
      | inl past ↦ rest k (omega arith) below
      | inr le ↦ let same : k ≡ a = omega arith in ap p same ∙ here
    ]

Least_next : (p : ℕ → Bool) (a b : ℕ) (r : Option ℕ) → p a ≡ false → Least p (a + 1) b r → Least p a b r
Least_next p a b None here least = from_next p a b here least
Least_next p a b (Some q) here least = (omega arith, least.1, least.2, from_next p a q here least.3)

Least_here : (p : ℕ → Bool) (a b : ℕ) → a < b → p a ≡ true → Least p a b (Some a)
Least_here p a b lt here = (omega arith, lt, here, λ k from below. absurd (omega arith))

Least_step : (p : ℕ → Bool) (a b : ℕ) (r : Option ℕ) → a < b → Least p (a + 1) b r → (t : Bool) → p a ≡ t → Least p a b (cond t (Some a) r)
Least_step p a b r lt least true here = Least_here p a b lt here
Least_step p a b r lt least false here = Least_next p a b r here least

pub find_least : (p : ℕ → Bool) (a n b : ℕ) → a + n ≡ b → Least p a b (find p (range_with_len a n))
find_least p a zero b e = λ k from below. absurd (omega arith)
find_least p a (suc n) b e = Least_step p a b (find p (range_with_len (a + 1) n)) (omega arith) (find_least p (a + 1) n b (omega arith)) (p a) refl

Least_only : (p : ℕ → Bool) (a b : ℕ) (r r' : Option ℕ) → Least p a b r → Least p a b r' → r ≡ r'
Least_only p a b None None l m = refl
Least_only p a b None (Some q) l m = absurd (both_ways (p q) (l q m.0 m.1) m.2)
Least_only p a b (Some q) None l m = absurd (both_ways (p q) (m q l.0 l.1) l.2)
Least_only p a b (Some q) (Some q') l m =
    elim (cases_lt q q') [
      | inl lt ↦ absurd (both_ways (p q) (m.3 q l.0 lt) l.2)
      | inr le ↦ elim (cases_lt q' q) [
        | inl lt ↦ absurd (both_ways (p q') (l.3 q' m.0 lt) m.2)
        | inr le' ↦ let same : q ≡ q' = omega arith in ap (λ n. Some n) same
      ]
    ]

-- ---- tests on mappings

pub pair_mapping : (s y : ℕ) (m : List ℕ) → is_pair s y m ≡ true → m ≡ s ∷ y ∷ []
pair_mapping s y (a ∷ b ∷ []) e =
    let t = and_parts (a == s) (b == y) e in
    let first : a ≡ s = eqb-true a s t.0 in
    let second : b ≡ y = eqb-true b y t.1 in
    cc
pair_mapping s y _ e = absurd (true≢false (sym e))

mapping_pair : (s y : ℕ) (m : List ℕ) → m ≡ s ∷ y ∷ [] → is_pair s y m ≡ true
mapping_pair s y m e = rw e (and_from (s == s) (y == y) (eq-eqb s s refl) (eq-eqb y y refl))

second_mapping : (y : ℕ) (m : List ℕ) → is_second y m ≡ true → (s : ℕ) × (m ≡ s ∷ y ∷ [])
second_mapping y (a ∷ b ∷ []) e = let second : b ≡ y = eqb-true b y e in (a, ap (λ n. a ∷ n ∷ []) second)
second_mapping y _ e = absurd (true≢false (sym e))

module _ (F : ℕ → Facts) (s y : ℕ) where
  composes_from : (q : ℕ) → q < point_count → composes F s y q ≡ true → Composes F s y q
  composes_from q lt e =
      let t = and_parts (primary F q) (is_pair s y (F q).mapping) e in
      record { point = lt; primary = t.0; mapping = pair_mapping s y (F q).mapping t.1 }

  composes_test : (q : ℕ) → Composes F s y q → composes F s y q ≡ true
  composes_test q is = and_from (primary F q) (is_pair s y (F q).mapping) is.primary (mapping_pair s y (F q).mapping is.mapping)

  not_composes : (q : ℕ) → ¬ Composes F s y q → q < point_count → composes F s y q ≡ false
  not_composes q absent lt =
      let by : (b : Bool) → composes F s y q ≡ b → composes F s y q ≡ false = elim [ true ↦ λ e. absurd (absent (composes_from q lt e)) | false ↦ λ e. e ] in
      by (composes F s y q) refl

  pair_from : (r : Option ℕ) → Least (composes F s y) 0 point_count r → IsPair F s y r
  pair_from None l = λ q is. both_ways (composes F s y q) (l q (omega arith) is.point) (composes_test q is)
  pair_from (Some q) l = (composes_from q l.1 l.2, λ k lt is. both_ways (composes F s y k) (l.3 k (omega arith) lt) (composes_test k is))

  pair_least : (r : Option ℕ) → IsPair F s y r → Least (composes F s y) 0 point_count r
  pair_least None absent = λ k from below. not_composes k (absent k) below
  pair_least (Some q) is = (omega arith, is.0.point, composes_test q is.0, λ k from below. not_composes k (is.1 k below) (omega (arith, is.0.point)))

  pair_found : Least (composes F s y) 0 point_count (pair_of F s y)
  unfolding pair_of
  pair_found = find_least (composes F s y) 0 point_count point_count (omega arith)

pub pair_is_least : PairIsLeast
pair_is_least F s y = pair_from F s y (pair_of F s y) (pair_found F s y)

pub pair_is_only : PairIsOnly
pair_is_only F s y r is = Least_only (composes F s y) 0 point_count (pair_of F s y) r (pair_found F s y) (pair_least F s y r is)

-- ---- some number that passes a test

any_some : (p : ℕ → Bool) (a n b : ℕ) → a + n ≡ b → list_any p (range_with_len a n) ≡ true → (q : ℕ) × (q < b) × (p q ≡ true)
any_some p a zero b e any = absurd (true≢false (sym any))
any_some p a (suc n) b e any =
    elim (or_cases (p a) (list_any p (range_with_len (a + 1) n)) any) [
      | inl here ↦ (a, omega arith, here)
      | inr rest ↦ any_some p (a + 1) n b (omega arith) rest
    ]

some_any : (p : ℕ → Bool) (a n b q : ℕ) → a + n ≡ b → a ≤ q → q < b → p q ≡ true → list_any p (range_with_len a n) ≡ true
some_any p a zero b q e from below is = absurd (omega arith)
some_any p a (suc n) b q e from below is =
    elim (cases_lt a q) [
      | inl past ↦ or_right (p a) (list_any p (range_with_len (a + 1) n)) (some_any p (a + 1) n b q (omega arith) (omega arith) below is)
      | inr le ↦ let same : a ≡ q = omega arith in rw (ap p same ∙ is) refl
    ]

module _ (F : ℕ → Facts) (y : ℕ) where
  second_from : (q : ℕ) → q < point_count → ends_with F y q ≡ true → IsSecond F y
  second_from q lt e =
      let t = and_parts (primary F q) (is_second y (F q).mapping) e in
      let m = second_mapping y (F q).mapping t.1 in
      (m.0, q, record { point = lt; primary = t.0; mapping = m.1 })

  second_test : (s q : ℕ) → Composes F s y q → ends_with F y q ≡ true
  second_test s q is = and_from (primary F q) (is_second y (F q).mapping) is.primary (rw is.mapping (eq-eqb y y refl))

  second_found : second_of F y ≡ true → IsSecond F y
  unfolding second_of
  second_found e = let t = any_some (ends_with F y) 0 point_count point_count (omega arith) e in second_from t.0 t.1 t.2

  second_shown : IsSecond F y → second_of F y ≡ true
  unfolding second_of
  second_shown is = some_any (ends_with F y) 0 point_count point_count is.1 (omega arith) (omega arith) is.2.point (second_test is.0 is.1 is.2)

pub second_is_exact : SecondIsExact
second_is_exact F y = (second_found F y, second_shown F y)

-- ---- what a search through all points finds

pub find_first : (p : ℕ → Bool) (n q : ℕ) → q < n → p q ≡ true → ((k : ℕ) → k < q → p k ≡ false) → find p (range_with_len 0 n) ≡ Some q
find_first p n q lt is least = Least_only p 0 n (find p (range_with_len 0 n)) (Some q) (find_least p 0 n n (omega arith)) (omega arith, lt, is, λ k from below. least k below)

pub find_none_below : (p : ℕ → Bool) (n : ℕ) → ((k : ℕ) → k < n → p k ≡ false) → find p (range_with_len 0 n) ≡ None
find_none_below p n absent = Least_only p 0 n (find p (range_with_len 0 n)) None (find_least p 0 n n (omega arith)) (λ k from below. absent k below)

pub pair_of_first : (F : ℕ → Facts) (s y q : ℕ) → q < point_count → composes F s y q ≡ true → ((k : ℕ) → k < q → composes F s y k ≡ false) → pair_of F s y ≡ Some q
unfolding pair_of
pair_of_first F s y q lt is least = find_first (composes F s y) point_count q lt is least

pub pair_of_none : (F : ℕ → Facts) (s y : ℕ) → ((k : ℕ) → k < point_count → composes F s y k ≡ false) → pair_of F s y ≡ None
unfolding pair_of
pair_of_none F s y absent = find_none_below (composes F s y) point_count absent

pub second_of_some : (F : ℕ → Facts) (y q : ℕ) → q < point_count → ends_with F y q ≡ true → second_of F y ≡ true
unfolding second_of
second_of_some F y q lt is = some_any (ends_with F y) 0 point_count point_count q (omega arith) (omega arith) lt is

pub second_of_none : (F : ℕ → Facts) (y : ℕ) → ((k : ℕ) → k < point_count → ends_with F y k ≡ false) → second_of F y ≡ false
unfolding second_of
second_of_none F y absent =
    let found : list_any (ends_with F y) (range_with_len 0 point_count) ≡ true → ⊥ = λ (e : list_any (ends_with F y) (range_with_len 0 point_count) ≡ true).
    let t = any_some (ends_with F y) 0 point_count point_count (omega arith) e in both_ways (ends_with F y t.0) (absent t.0 t.1) t.2 in
    false_from_ne_true (second_of F y) found
