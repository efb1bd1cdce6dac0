-- The laws of composition. The Unicode Standard, section 3.11, D115 and D117.
-- has_no_starter class xs      no point of xs has class 0
-- is_blocked class between y   y is blocked from the starter before what stands between: a point there has class 0, or a class
--                              not less than that of y (D115)
-- LastStarter class xs before s after   xs is what stands before s, s, and what stands after it; s has class 0, and nothing after
--                              it has
-- CompositesReplace            one more point that is not blocked from the last starter of what is composed, and has a composite
--                              with it: the composite takes the starter's place, and the point goes (D117)
-- BlockedStay                  one more point that is blocked from the last starter stays at the end
-- UnpairedStay                 so does one that has no composite with the last starter
-- StarterlessStay              and one before which no starter is
-- EmptyComposesToEmpty              no points compose to none, so that these laws tell the composition of each list
use Rattle.std.specs.Prelude.{◌≡◌, ℕ, Bool, true, false, not, ◌||◌, List, [], ◌∷◌, ◌++◌, nat_le, ◌==◌, Option, Some, None}
use Rattle.std.specs.List.{list_any, list_all}
use Rattle.ucd_model.specs.Composition.{compose}

abbrev pub has_no_starter : (ℕ → ℕ) → List ℕ → Bool
has_no_starter class xs = list_all (λ x. not (class x == 0)) xs

abbrev pub is_blocked : (ℕ → ℕ) → List ℕ → ℕ → Bool
is_blocked class between y = list_any (λ x. (class x == 0) || nat_le (class y) (class x)) between

pub record LastStarter (class : ℕ → ℕ) (xs before : List ℕ) (s : ℕ) (after : List ℕ) : Type 0 where
  pub list : xs ≡ before ++ s ∷ after
  pub starter : class s ≡ 0
  pub last : has_no_starter class after ≡ true

abbrev pub CompositesReplace : Type 0
CompositesReplace = (class : ℕ → ℕ) (pair : ℕ → ℕ → Option ℕ) (xs before after : List ℕ) (s y q : ℕ) → LastStarter class (compose class pair xs) before s after
    → is_blocked class after y ≡ false → pair s y ≡ Some q → compose class pair (xs ++ y ∷ []) ≡ before ++ q ∷ after

abbrev pub BlockedStay : Type 0
BlockedStay = (class : ℕ → ℕ) (pair : ℕ → ℕ → Option ℕ) (xs before after : List ℕ) (s y : ℕ) → LastStarter class (compose class pair xs) before s after
    → is_blocked class after y ≡ true → compose class pair (xs ++ y ∷ []) ≡ compose class pair xs ++ y ∷ []

abbrev pub UnpairedStay : Type 0
UnpairedStay = (class : ℕ → ℕ) (pair : ℕ → ℕ → Option ℕ) (xs before after : List ℕ) (s y : ℕ) → LastStarter class (compose class pair xs) before s after
    → pair s y ≡ None → compose class pair (xs ++ y ∷ []) ≡ compose class pair xs ++ y ∷ []

abbrev pub StarterlessStay : Type 0
StarterlessStay = (class : ℕ → ℕ) (pair : ℕ → ℕ → Option ℕ) (xs : List ℕ) (y : ℕ) → has_no_starter class (compose class pair xs) ≡ true
    → compose class pair (xs ++ y ∷ []) ≡ compose class pair xs ++ y ∷ []

abbrev pub EmptyComposesToEmpty : Type 0
EmptyComposesToEmpty = (class : ℕ → ℕ) (pair : ℕ → ℕ → Option ℕ) → compose class pair [] ≡ []
