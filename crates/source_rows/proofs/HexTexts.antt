-- What a code point is written in lacks whatever no digit is.
use Rattle.std.proofs.Common.{◌≡◌, ℕ, ◌/◌, ◌%◌, ◌<◌, Bool, false, List, ◌∷◌, length, nat_lt, refl, arith}
use Rattle.std.proofs.lemmas.Bool.{cond_both}
use Rattle.std.specs.List.{list_any}
use Rattle.ucd_points.specs.HexText.{hex_digit, four_digits, hex_text}

digit_lacks : (p : ℕ → Bool) → ((d : ℕ) → d < 16 → p (hex_digit d) ≡ false) → (n : ℕ) → p (hex_digit (n % 16)) ≡ false
digit_lacks p h n = h (n % 16) (omega arith)

four_lack : (p : ℕ → Bool) → ((d : ℕ) → d < 16 → p (hex_digit d) ≡ false) → (c : ℕ) → list_any p (four_digits c) ≡ false
four_lack p h c = rw (digit_lacks p h (c / 4096), digit_lacks p h (c / 256), digit_lacks p h (c / 16), digit_lacks p h c) refl

pub hex_lacks : (p : ℕ → Bool) → ((d : ℕ) → d < 16 → p (hex_digit d) ≡ false) → (c : ℕ) → list_any p (hex_text c) ≡ false
unfolding hex_text
hex_lacks p h c =
    let four = four_lack p h c in
    let five : list_any p (hex_digit (c / 65536 % 16) ∷ four_digits c) ≡ false = rw (digit_lacks p h (c / 65536)) four in
    let six : list_any p (hex_digit (c / 1048576 % 16) ∷ hex_digit (c / 65536 % 16) ∷ four_digits c) ≡ false = rw (digit_lacks p h (c / 1048576)) five in
    cond_both (nat_lt c 65536) _ _ (λ (bs : List ℕ). list_any p bs ≡ false) (λ _. four) (λ _. cond_both (nat_lt c 1048576) _ _ (λ (bs : List ℕ). list_any p bs ≡ false) (λ _. five) (λ _. six))

pub hex_some : (c : ℕ) → 0 < length (hex_text c)
unfolding hex_text
hex_some c = cond_both (nat_lt c 65536) _ _ (λ (bs : List ℕ). 0 < length bs) (λ _. omega arith) (λ _. cond_both (nat_lt c 1048576) _ _ (λ (bs : List ℕ). 0 < length bs) (λ _. omega arith) (λ _. omega arith))
