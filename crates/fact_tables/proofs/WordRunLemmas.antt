-- Words that are given span by span.
use Rattle.std.proofs.Common.{◌≡◌, ℕ, ◌+◌, ◌≤◌, Bool, true, false, cond, ◌||◌, ◌&&◌, nat_le, refl, ap, ◌∙◌, arith}
use Rattle.std.proofs.lemmas.Bool.Decides.{nat_tests}

either : (a b : Bool) (word before : ℕ) → cond (a || b) word before ≡ cond b word (cond a word before)
either true true word before = refl
either true false word before = refl
either false true word before = refl
either false false word before = refl

both_spans : (c lo hi from to : ℕ) → lo ≤ hi → from ≤ to → hi + 1 ≡ from → (nat_le lo c && nat_le c to) ≡ ((nat_le lo c && nat_le c hi) || (nat_le from c && nat_le c to))
both_spans c lo hi from to first second near = grind (arith, nat_tests)

-- a span and the one right behind it, with one word
pub given_as_one : (c lo hi from to word before : ℕ) → lo ≤ hi → from ≤ to → hi + 1 ≡ from
    → cond (nat_le lo c && nat_le c to) word before ≡ cond (nat_le from c && nat_le c to) word (cond (nat_le lo c && nat_le c hi) word before)
given_as_one c lo hi from to word before first second near =
    ap (λ b. cond b word before) (both_spans c lo hi from to first second near) ∙ either (nat_le lo c && nat_le c hi) (nat_le from c && nat_le c to) word before
