-- Hexadecimal digits.
use Rattle.std.proofs.Common.{◌≡◌, ℕ, suc, ◌+◌, ◌*◌, ◌^◌, ◌<◌, Option, Some, None, refl, arith}
use Rattle.ucd_points.specs.Fields.{with_digit}

-- before an eighth digit
pub seven_digits : (i n : ℕ) → i < 8 → n < 16 ^ i → n < 268435456
seven_digits (suc (suc (suc (suc (suc (suc (suc (suc i)))))))) n le lt = absurd (omega arith)
seven_digits _ n le lt = omega arith

pub no_digit : (n : Option ℕ) → with_digit n None ≡ None
no_digit (Some n) = refl
no_digit None = refl
