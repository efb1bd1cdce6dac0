-- The laws of canonical order. The Unicode Standard, section 3.11, D108 and D109.
-- Reorderable class a b   a and b, beside one another, are to be exchanged: the class of a is greater than that of b, which is
--                         not 0 (D108)
-- Exchanges class xs ys   ys comes from xs by exchanging reorderable pairs, one after the other
-- InOrder class xs        xs has no reorderable pair
-- OrderIsReached          the ordered list comes from the list by exchanging reorderable pairs, and has no reorderable pair left
--                         (D109)
-- OrderIsOnly             whatever pairs are exchanged, and in whatever turn: where none is left, the list is the ordered one
-- OrderTwice              what is in order stays
-- StartersStay            a point of class 0 stays at the end
-- NonstartersPassGreaterClasses               a point of another class is moved before the points directly before it that have a greater class, and
--                         no further
-- EqualsKeepOrder         the points of one class keep their order
use Rattle.std.specs.Prelude.{◌≡◌, ℕ, ◌<◌, ◌≤◌, List, [], ◌∷◌, ◌++◌, ◌==◌, filter, All}
use Rattle.ucd_model.specs.CanonicalOrder.{order}

abbrev pub Reorderable : (ℕ → ℕ) → ℕ → ℕ → Type 0
Reorderable class a b = (0 < class b) × (class b < class a)

pub data Exchanges (class : ℕ → ℕ) (end : List ℕ) : List ℕ → Type 0 where
  ended : (xs : List ℕ) → xs ≡ end → Exchanges class end xs
  exchanged : (xs before after : List ℕ) (a b : ℕ) → xs ≡ before ++ a ∷ b ∷ after → Reorderable class a b → Exchanges class end (before ++ b ∷ a ∷ after) → Exchanges class end xs

abbrev pub InOrder : (ℕ → ℕ) → List ℕ → Type 0
InOrder class xs = (before after : List ℕ) (a b : ℕ) → xs ≡ before ++ a ∷ b ∷ after → ¬ Reorderable class a b

abbrev pub OrderIsReached : Type 0
OrderIsReached = (class : ℕ → ℕ) (xs : List ℕ) → Exchanges class (order class xs) xs × InOrder class (order class xs)

abbrev pub OrderIsOnly : Type 0
OrderIsOnly = (class : ℕ → ℕ) (xs ys : List ℕ) → Exchanges class ys xs → InOrder class ys → ys ≡ order class xs

abbrev pub OrderTwice : Type 0
OrderTwice = (class : ℕ → ℕ) (xs : List ℕ) → order class (order class xs) ≡ order class xs

abbrev pub StartersStay : Type 0
StartersStay = (class : ℕ → ℕ) (xs : List ℕ) (y : ℕ) → class y ≡ 0 → order class (xs ++ y ∷ []) ≡ order class xs ++ y ∷ []

abbrev pub NonstartersPassGreaterClasses : Type 0
NonstartersPassGreaterClasses = (class : ℕ → ℕ) (xs before after : List ℕ) (x y : ℕ) → 0 < class y → All (λ m. class y < class m) after
    → (order class xs ≡ after → order class (xs ++ y ∷ []) ≡ y ∷ after)
    × (order class xs ≡ before ++ x ∷ after → class x ≤ class y → order class (xs ++ y ∷ []) ≡ before ++ x ∷ y ∷ after)

abbrev pub EqualsKeepOrder : Type 0
EqualsKeepOrder = (class : ℕ → ℕ) (k : ℕ) (xs : List ℕ) → filter (λ x. class x == k) (order class xs) ≡ filter (λ x. class x == k) xs
