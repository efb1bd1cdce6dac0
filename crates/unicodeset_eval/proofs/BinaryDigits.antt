-- How many binary digits of a number are 1.
-- odd_ones     an odd number has one more than its half, and the next number as many as that half's next one
-- even_ones    the number behind an even one has one more
use Rattle.std.proofs.Common.{◌≡◌, ℕ, ◌+◌, ◌/◌, ◌%◌, ap, ◌∙◌, arith, count_ones}
use Rattle.std.specs.Int.Count.{ones_step}

pub odd_ones : (d : ℕ) → d % 2 ≡ 1 → (count_ones d ≡ count_ones (d / 2) + 1) × (count_ones (d + 1) ≡ count_ones (d / 2 + 1))
odd_ones d odd =
    let digit : (d + 1) % 2 ≡ 0 = omega (arith, odd) in
    let half : (d + 1) / 2 ≡ d / 2 + 1 = omega (arith, odd) in
    let step = ones_step d in
    let next = ones_step (d + 1) in
    let ones = ap count_ones half in
    (omega (arith, odd, step), omega (arith, digit, next, ones))

pub even_ones : (d : ℕ) → d % 2 ≡ 0 → count_ones (d + 1) ≡ count_ones d + 1
even_ones d even =
    let digit : (d + 1) % 2 ≡ 1 = omega (arith, even) in
    let half : (d + 1) / 2 ≡ d / 2 = omega (arith, even) in
    let step = ones_step d in
    let next = ones_step (d + 1) ∙ ap (λ h. (d + 1) % 2 + count_ones h) half in
    omega (arith, even, digit, step, next)
