-- The decimal digits of a class, which is less than 1000.
use Rattle.std.proofs.Common.{◌≡◌, ℕ, ◌+◌, ◌/◌, ◌%◌, ◌<◌, ◌≤◌, List, [], ◌∷◌, ◌++◌, nat_lt, ap, ◌∙◌, arith, if◌then◌else◌, decimal}
use Rattle.std.proofs.lemmas.Bool.{cond_both, ltb-true, ltb-false}
use Rattle.std.proofs.lemmas.Fmt.{decimal_digit as decimal_one, decimal_step}

-- the byte of the last decimal digit of a number
abbrev pub decimal_digit : ℕ → ℕ
decimal_digit d = 48 + d % 10

-- the last digits of a number: one, two or three
abbrev pub class_digits : ℕ → List ℕ
class_digits n = if nat_lt n 10 then decimal_digit n ∷ [] else (if nat_lt n 100 then decimal_digit (n / 10) ∷ decimal_digit n ∷ [] else decimal_digit (n / 100) ∷ decimal_digit (n / 10) ∷ decimal_digit n ∷ [])

pub one : (n : ℕ) → n < 10 → decimal n ≡ decimal_digit n ∷ []
one n small =
    let same : n ≡ n % 10 = omega arith in
    decimal_one n small ∙ ap (λ d. (48 + d) ∷ []) same

pub two : (n : ℕ) → 10 ≤ n → n < 100 → decimal n ≡ decimal_digit (n / 10) ∷ decimal_digit n ∷ []
two n some small = decimal_step n some (omega arith) ∙ ap (λ ds. ds ++ decimal_digit n ∷ []) (one (n / 10) (omega arith))

pub three : (n : ℕ) → 100 ≤ n → n < 1000 → decimal n ≡ decimal_digit (n / 100) ∷ decimal_digit (n / 10) ∷ decimal_digit n ∷ []
three n some small =
    let same : n / 10 / 10 ≡ n / 100 = omega arith in
    decimal_step n (omega arith) (omega arith)
    ∙ ap (λ ds. ds ++ decimal_digit n ∷ []) (two (n / 10) (omega arith) (omega arith))
    ∙ ap (λ d. decimal_digit d ∷ decimal_digit (n / 10) ∷ decimal_digit n ∷ []) same

pub class_is : (n : ℕ) → n < 1000 → decimal n ≡ class_digits n
class_is n small = cond_both (nat_lt n 10) _ _ (λ (bs : List ℕ). decimal n ≡ bs) (λ e. one n (ltb-true n 10 e)) (λ e. cond_both (nat_lt n 100) _ _ (λ (bs : List ℕ). decimal n ≡ bs) (λ f. two n (ltb-false n 10 e) (ltb-true n 100 f)) (λ f. three n (ltb-false n 100 f) small))
