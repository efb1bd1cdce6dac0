-- A list without a separator is its one part.
-- split_whole p xs         where nothing in xs is a separator, xs is all that it is split into
use Rattle.std.proofs.Common.{◌≡◌, ℕ, ◌≤◌, Bool, true, false, List, [], ◌∷◌, length, refl, arith}
use Rattle.std.specs.List.{slice_split, position_or_len}

split_step : (p : ℕ → Bool) (x : ℕ) (xs : List ℕ) (b : Bool) → p x ≡ b → length (x ∷ xs) ≤ position_or_len p (x ∷ xs) → (length xs ≤ position_or_len p xs → slice_split p xs ≡ xs ∷ []) → slice_split p (x ∷ xs) ≡ (x ∷ xs) ∷ []
split_step p x xs true e h ih = let k = rw e at h in absurd (omega (arith, k))
split_step p x xs false e h ih = let k = rw e at h in rw (e, ih (omega (arith, k))) refl

pub split_whole : (p : ℕ → Bool) (xs : List ℕ) → length xs ≤ position_or_len p xs → slice_split p xs ≡ xs ∷ []
split_whole p [] h = refl
split_whole p (x ∷ xs) h = split_step p x xs (p x) refl h (λ k. split_whole p xs k)
