-- Which words are numbers in decimal digits.
use Rattle.std.proofs.Common.{◌≡◌, ◌≢◌, ℕ, zero, suc, ◌<◌, ◌^◌, Bool, true, false, not, ◌&&◌, ◌==◌, List, [], ◌∷◌, length, get_or, Option, Some, None, Result, Ok, Err, refl, sym, ap, subst, ◌∙◌, arith, decimal, MatchOption, IsUtf8, bytes_eq, eq-eqb, ltb-true, lt-ltb, ne_eqb}
use Rattle.std.specs.Result.{result_ok}
use Rattle.std.specs.Str.Parse.{AllDigits, IsNumeral, ParsesUnsigned, digits_value, without_leading_plus}
use Rattle.std.specs.Prelude.{nat_lt, if◌then◌else◌, ⊤}
use Rattle.std.proofs.lemmas.Slice.Eq.{bytes_eq-Decides}
use Rattle.std.proofs.lemmas.Fmt.{IsAscii-decimal, decimal-digits_value, decimal_digit, decimal_is_IsNumeral, first_decimal, parse-decimal}
use Rattle.std.proofs.lemmas.Str.{IsUtf8-from_ascii}
use Rattle.std.proofs.lemmas.Str.Parse.{digit_from_value, numerals_by_value, tells_digits, without_leading_plus_none}
use Rattle.script_pieces.specs.Decimals.{is_plain, number_of}

-- ---- numbers are plain

plain_digits : (ds : List ℕ) → AllDigits 10 ds → (get_or ds 0 0 ≡ 48 → length ds ≡ 1) → is_plain ds ≡ true
plain_digits [] digits lead = refl
plain_digits (b ∷ []) digits lead = ap not (ne_eqb b 43 (λ e. omega (arith, e, digit_from_value b digits.0)))
plain_digits (b ∷ c ∷ cs) digits lead =
    rw (ne_eqb b 43 (λ e. omega (arith, e, digit_from_value b digits.0)), ne_eqb b 48 (λ e. omega (arith, lead e))) refl

lead_decimal : (n : ℕ) → n < 2 ^ 64 → get_or (decimal n) 0 0 ≡ 48 → length (decimal n) ≡ 1
lead_decimal zero small e = ap length (decimal_digit 0 (omega arith))
lead_decimal (suc n) small e = absurd (omega (arith, e, first_decimal (suc n) (omega arith) small))

plain_decimal : (n : ℕ) → n < 2 ^ 64 → is_plain (decimal n) ≡ true
plain_decimal n small = plain_digits (decimal n) (decimal_is_IsNumeral n small).0.1 (lead_decimal n small)

pub not_plain : (word : List ℕ) → is_plain word ≡ false → (n : ℕ) → n < 2 ^ 32 → word ≢ decimal n
not_plain word other n small is =
    let plain : is_plain word ≡ true = ap is_plain is ∙ plain_decimal n (omega arith) in
    absurd cc

pub not_text : (word : List ℕ) → ¬ (IsUtf8 word) → (n : ℕ) → n < 2 ^ 32 → word ≢ decimal n
not_text word other n small is = other (subst IsUtf8 (sym is) (IsUtf8-from_ascii (decimal n) (IsAscii-decimal n (omega arith))))

-- ---- what is read

no_plus : (ds : List ℕ) → is_plain ds ≡ true → get_or ds 0 0 ≢ 43
no_plus [] plain e = omega (arith, e)
no_plus (b ∷ []) plain e = let is : (b == 43) ≡ true = eq-eqb b 43 e in absurd (let no : not true ≡ true = sym (ap not is) ∙ plain in cc)
no_plus (b ∷ c ∷ cs) plain e = let is : (b == 43) ≡ true = eq-eqb b 43 e in absurd (let no : (not true && not (b == 48)) ≡ true = ap (λ t. not t && not (b == 48)) (sym is) ∙ plain in cc)

and_last : (t : Bool) → (t && not true) ≡ true → ⊥
and_last true e = absurd cc
and_last false e = absurd cc

zero_alone : (ds : List ℕ) → is_plain ds ≡ true → get_or ds 0 0 ≡ 48 → length ds ≡ 1
zero_alone [] plain e = absurd (omega (arith, e))
zero_alone (b ∷ []) plain e = refl
zero_alone (b ∷ c ∷ cs) plain e = absurd (and_last (not (b == 43)) (ap (λ t. not (b == 43) && not t) (sym (eq-eqb b 48 e)) ∙ plain))

pub read : {E : Type 0} (word : List ℕ) (r : Result ℕ E) → is_plain word ≡ true → ParsesUnsigned 32 10 word r
    → MatchOption (result_ok r) ((n : ℕ) → n < 2 ^ 32 → word ≢ decimal n) (λ n. word ≡ decimal n)
read word (Ok n) plain h =
    let same : without_leading_plus word ≡ word = without_leading_plus_none word (no_plus word plain) in
    let numeral : IsNumeral 10 word = subst (IsNumeral 10) same h.0.0 in
    let value : digits_value 10 word ≡ n = ap (digits_value 10) (sym same) ∙ sym h.1 in
    let small : digits_value 10 word < 2 ^ 32 = subst (λ ds. digits_value 10 ds < 2 ^ 32) same h.0.1 in
    sym (decimal-digits_value (numerals_by_value _ tells_digits) word numeral.1 numeral.0 (zero_alone word plain) (omega (arith, small))) ∙ ap decimal value
read word (Err e) plain h = λ n small is. let gives : Err e ≡ Ok n = parse-decimal 32 n word (Err e) small (omega arith) is h in absurd cc

-- ---- the number is the value of its digits

value_back : (n : ℕ) → n < 2 ^ 32 → digits_value 10 (decimal n) ≡ n
value_back n small = (decimal_is_IsNumeral n (omega (arith, small))).1

number_by : (word : List ℕ) (fits written : Bool) → nat_lt (digits_value 10 word) (2 ^ 32) ≡ fits → bytes_eq word (decimal (digits_value 10 word)) ≡ written
    → number_of word ≡ (if fits && written then Some (digits_value 10 word) else None)
number_by word fits written f w = rw (f, w) refl

pub by_value : (word : List ℕ) (result : Option ℕ) → MatchOption result ⊤ (λ n. n < 2 ^ 32) → MatchOption result ((n : ℕ) → n < 2 ^ 32 → word ≢ decimal n) (λ n. word ≡ decimal n)
    → result ≡ number_of word
by_value word (Some n) small written =
    let value : digits_value 10 word ≡ n = ap (digits_value 10) written ∙ value_back n small in
    let fits : nat_lt (digits_value 10 word) (2 ^ 32) ≡ true = lt-ltb (digits_value 10 word) (2 ^ 32) (omega (arith, value, small)) in
    let same : bytes_eq word (decimal (digits_value 10 word)) ≡ true = (bytes_eq-Decides word (decimal (digits_value 10 word))).1 (written ∙ ap decimal (sym value)) in
    ap Some (sym value) ∙ sym (number_by word true true fits same)
by_value word None small written = none_by (nat_lt (digits_value 10 word) (2 ^ 32)) (bytes_eq word (decimal (digits_value 10 word))) refl refl
  where
    none_by : (fits same : Bool) → nat_lt (digits_value 10 word) (2 ^ 32) ≡ fits → bytes_eq word (decimal (digits_value 10 word)) ≡ same → None ≡ number_of word
    none_by true true f w = absurd (written (digits_value 10 word) (ltb-true (digits_value 10 word) (2 ^ 32) f) ((bytes_eq-Decides word (decimal (digits_value 10 word))).0 w))
    none_by true false f w = sym (number_by word true false f w)
    none_by false same f w = sym (number_by word false same f w)
