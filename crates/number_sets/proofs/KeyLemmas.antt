-- The next key of a list.
-- kept_by_dedup   a list that is freed of repeats has the same numbers
-- listed_next     the first number of an ascending list that is not below start is the next one
use Rattle.std.proofs.Common.{◌≡◌, ℕ, ◌+◌, ◌<◌, ◌≤◌, true, false, List, length, get_or, sym, subst, arith, inl, inr, eqb, ltb}
use Rattle.std.specs.List.{Contains, dedup, slice_get}
use Rattle.std.specs.List.Sorted.{IsNonDecreasing, IsPartitionPoint, IsStrictlyIncreasing}
use Rattle.std.proofs.lemmas.Bool.{cases_lt, eqb-true, ltb-true, ltb-false, false_from_ne_true}
use Rattle.std.proofs.lemmas.Bool.Decides.{nat_tests}
use Rattle.std.proofs.lemmas.List.Folds.{list_any_at}
use Rattle.std.proofs.lemmas.List.Kept.{Contains-dedup_nat, Contains-from_dedup}
use Rattle.std.proofs.lemmas.List.{get_or_default}
use Rattle.std.proofs.lemmas.Map.Keys.{non_decreasing_from_sorted, sorted_from_strictly_increasing}
use Rattle.std.proofs.lemmas.Map.Views.{Contains-from_any}
use Rattle.std.proofs.lemmas.Option.{get_or_from_slice_get, slice_get_cases}
use Rattle.std.specs.Cmp.{both_ways}
use Rattle.number_sets.specs.Keys.{IsBetween, IsNext, is_in}

-- ---- a list

has_place : (xs : List ℕ) (k : ℕ) → is_in xs k ≡ true → Contains xs k
has_place xs k h = Contains-from_any eqb-true k xs h

from_place : (xs : List ℕ) (k : ℕ) → Contains xs k → is_in xs k ≡ true
from_place xs k (i, inside, is) = list_any_at (λ y. eqb k y) xs i k inside (let at : get_or xs i k ≡ k = is in grind (arith, nat_tests))

pub kept_by_dedup : (xs : List ℕ) (k : ℕ) → is_in (dedup eqb xs) k ≡ is_in xs k
kept_by_dedup xs k = both_ways (is_in (dedup eqb xs) k) (is_in xs k)
    (λ h. from_place xs k (Contains-from_dedup eqb xs k (has_place (dedup eqb xs) k h)))
    (λ h. from_place (dedup eqb xs) k (Contains-dedup_nat xs k (has_place xs k h)))

-- a number that stands in the list stands before the place and is below start, or from there on
none_up_to : (xs : List ℕ) (start place k : ℕ) → IsPartitionPoint (λ y. ltb y start ≡ true) (λ y. ltb y start ≡ false) xs place → start ≤ k
    → ((i : ℕ) → place ≤ i → i < length xs → get_or xs i k ≡ k → ⊥) → is_in xs k ≡ false
none_up_to xs start place k point low later = false_from_ne_true (is_in xs k) (λ h.
    let at = has_place xs k h in
    elim (cases_lt at.0 place) [
      | inl before ↦ let below = ltb-true _ _ (point.0 at.0 k (omega arith) before) in let is : get_or xs at.0 k ≡ k = at.2 in absurd (omega (arith, below, is, low))
      | inr from ↦ later at.0 from at.1 at.2
    ])

pub listed_next : (xs : List ℕ) (start place : ℕ) → IsNonDecreasing xs → IsPartitionPoint (λ y. ltb y start ≡ true) (λ y. ltb y start ≡ false) xs place → IsNext (is_in xs) start (slice_get xs place)
listed_next xs start place ascends point = elim ((slice_get_cases xs place).1) [
  | inl (x, inside, is, at) ↦ subst (IsNext (is_in xs) start) (sym is) (
    (let above = ltb-false _ _ (point.1 place x (omega arith) inside) in omega (arith, above, at)),
    from_place xs x (place, inside, at),
    λ k low below. none_up_to xs start place k point low (λ i from within stands.
        let rises = ascends place i k from within in
        let first = get_or_from_slice_get xs place x k is in
        omega (arith, rises, first, stands, below)),
  )
  | inr (past, is) ↦ subst (IsNext (is_in xs) start) (sym is) (λ k low. none_up_to xs start place k point low (λ i from inside stands. omega arith))
]

-- ---- between two places

-- the numbers up to a place are below start, if the one there is
pub behind_all : (xs : List ℕ) (start place : ℕ) → IsStrictlyIncreasing xs → place < length xs → get_or xs place 0 < start → (i d : ℕ) → i < place + 1 → get_or xs i d < start
behind_all xs start place ascends inside low i d lt =
    let rises = non_decreasing_from_sorted xs (sorted_from_strictly_increasing xs ascends) i place d (omega arith) inside in
    let at = get_or_default xs place d 0 inside in
    omega (arith, rises, at, low)

-- the numbers from a place on are not, if the one there is not
pub before_all : (xs : List ℕ) (start place : ℕ) → IsStrictlyIncreasing xs → start ≤ get_or xs place 0 → (i d : ℕ) → place ≤ i → i < length xs → start ≤ get_or xs i d
before_all xs start place ascends high i d from inside =
    let rises = non_decreasing_from_sorted xs (sorted_from_strictly_increasing xs ascends) place i d from inside in
    let at = get_or_default xs place d 0 (omega arith) in
    omega (arith, rises, at, high)

-- if no place is left between the two, it is that of the next number
pub parted : (xs : List ℕ) (start place : ℕ) → IsBetween xs start place place → IsPartitionPoint (λ y. ltb y start ≡ true) (λ y. ltb y start ≡ false) xs place
parted xs start place between = (
  λ i d inside lt. let below = between.below i d lt in grind (arith, nat_tests),
  λ i d from inside. let above = between.above i d from inside in grind (arith, nat_tests),
)
