-- The laws of primary composites. The Unicode Standard, section 3.11, D114.
-- Composes F s y q   q is a primary composite with the mapping s y
-- IsPair F s y r     r is the least such q; None, and there is none
-- IsSecond F y       y is the second member of some primary composite's mapping
-- PairIsLeast        the pair of s and y is the least primary composite with their mapping; None, and there is none
-- PairIsOnly         and nothing else is: whatever is so is the pair of s and y
-- SecondIsExact      y is told to be a second member exactly where it is that of some primary composite's mapping
use Rattle.std.specs.Prelude.{◌≡◌, ℕ, ◌<◌, true, [], ◌∷◌, Option, Some, None, ◌↔◌}
use Rattle.ucd_points.specs.Limits.{point_count}
use Rattle.ucd_facts.specs.Facts.{Facts}
use Rattle.ucd_facts.specs.Composites.{primary, pair_of, second_of}

pub record Composes (F : ℕ → Facts) (s y q : ℕ) : Type 0 where
  pub point : q < point_count
  pub primary : primary F q ≡ true
  pub mapping : (F q).mapping ≡ s ∷ y ∷ []

abbrev pub IsPair : (ℕ → Facts) → ℕ → ℕ → Option ℕ → Type 0
IsPair F s y None = (q : ℕ) → ¬ Composes F s y q
IsPair F s y (Some q) = Composes F s y q × ((lesser : ℕ) → lesser < q → ¬ Composes F s y lesser)

abbrev pub IsSecond : (ℕ → Facts) → ℕ → Type 0
IsSecond F y = (s : ℕ) × (q : ℕ) × Composes F s y q

abbrev pub PairIsLeast : Type 0
PairIsLeast = (F : ℕ → Facts) (s y : ℕ) → IsPair F s y (pair_of F s y)

abbrev pub PairIsOnly : Type 0
PairIsOnly = (F : ℕ → Facts) (s y : ℕ) (r : Option ℕ) → IsPair F s y r → pair_of F s y ≡ r

abbrev pub SecondIsExact : Type 0
SecondIsExact = (F : ℕ → Facts) (y : ℕ) → (second_of F y ≡ true) ↔ IsSecond F y
