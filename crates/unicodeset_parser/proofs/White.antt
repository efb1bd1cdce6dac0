-- White space that is passed over.
use Rattle.std.proofs.Common.{◌≡◌, ℕ, zero, suc, ◌<◌, List, [], ◌∷◌, drop, refl, ap, ◌∙◌, arith}
use Rattle.unicodeset_parser.specs.Blanks.{blank_size, closes, closes_by}

closes_skip : (k : ℕ) (bs : List ℕ) → closes k bs ≡ closes 0 (drop k bs)
closes_skip zero bs = refl
closes_skip (suc k) [] = refl
closes_skip (suc k) (b ∷ bs) = closes_skip k bs

pub closes_step : (n : ℕ) (bs : List ℕ) → blank_size bs ≡ n → 0 < n → closes 0 bs ≡ closes 0 (drop n bs)
closes_step zero bs e some = absurd (omega arith)
closes_step (suc n) [] e some = refl
closes_step (suc n) (b ∷ bs) e some = ap (λ m. closes_by m b (λ k. closes k bs)) e ∙ closes_skip n bs
