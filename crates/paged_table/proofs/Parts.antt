-- Parts of 256 values are given one value.
use Rattle.std.proofs.Common.{◌≡◌, ℕ, ◌<◌, ◌≤◌, ◌⊎◌, inl, inr, sym, ◌∙◌, cond, leb, ◌&&◌, arith}
use Rattle.std.proofs.lemmas.Bool.Decides.{nat_tests}
use Rattle.paged_table.specs.Blocks.{with_part, IsEven, IsOutside}

within : (lo hi v w a : ℕ) → lo ≤ a → a ≤ hi → cond (leb lo a && leb a hi) v w ≡ v
within lo hi v w a low high = grind (arith, nat_tests)

below : (lo hi v w a : ℕ) → a < lo → cond (leb lo a && leb a hi) v w ≡ w
below lo hi v w a h = grind (arith, nat_tests)

above : (lo hi v w a : ℕ) → hi < a → cond (leb lo a && leb a hi) v w ≡ w
above lo hi v w a h = grind (arith, nat_tests)

pub part_within : (f : ℕ → ℕ) (lo hi v a : ℕ) → lo ≤ a → a ≤ hi → with_part f lo hi v a ≡ v
part_within f lo hi v a low high = within lo hi v (f a) a low high

pub part_outside : (f : ℕ → ℕ) (lo hi v a : ℕ) → (a < lo) ⊎ (hi < a) → with_part f lo hi v a ≡ f a
part_outside f lo hi v a (inl h) = below lo hi v (f a) a h
part_outside f lo hi v a (inr h) = above lo hi v (f a) a h

-- where all values are equal then, those outside are the value
pub outside_from_even : (f g : ℕ → ℕ) (lo hi v : ℕ) → lo ≤ hi → hi < 256 → ((a : ℕ) → a < 256 → g a ≡ with_part f lo hi v a) → IsEven g → IsOutside f lo hi v
outside_from_even f g lo hi v le lt is even a small out =
    let low : lo < 256 = omega arith in
    sym (part_outside f lo hi v a out) ∙ sym (is a small) ∙ even a lo small low ∙ is lo low ∙ part_within f lo hi v lo (omega arith) le
