-- Fields that are taken off one by one.
use Rattle.std.proofs.Common.{◌≡◌, ℕ, ◌+◌, ◌<◌, List, ◌∷◌, length, ap, arith}

-- one more field, while more than one is left
pub taken : (fs gs : List (List ℕ)) (f : List ℕ) (n : ℕ) → length fs ≡ n + 2 → (1 < length fs → fs ≡ f ∷ gs) → (fs ≡ f ∷ gs) × (length gs ≡ n + 1)
taken fs gs f n len more =
    let e : fs ≡ f ∷ gs = more (omega arith) in
    (e, omega (arith, ap length e))
