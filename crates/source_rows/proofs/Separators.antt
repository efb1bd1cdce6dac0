-- The separators of a line, and what is none.
use Rattle.std.proofs.Common.{◌≡◌, ℕ, ◌<◌, ◌≤◌, Bool, true, false, List, [], ◌∷◌, refl, arith, nat_le, ◌&&◌, not, ◌==◌}
use Rattle.std.specs.List.{list_all}
use Rattle.std.proofs.lemmas.Bool.{ne_eqb, and_parts, leb-true, not-true}
use Rattle.std.proofs.lemmas.Bool.Decides.{nat_tests}
use Rattle.ucd_points.specs.Lines.{is_lf}
use Rattle.ucd_points.specs.Fields.{is_semicolon, is_hash, is_name_byte, is_name}
use Rattle.ucd_points.specs.HexText.{hex_digit}
use Rattle.source_rows.proofs.Lacks.{Lacks, lacks_all}

-- no digit, letter, space or dot, and no `<` or `>`
pub record Separates (p : ℕ → Bool) : Type 0 where
  pub digit : (d : ℕ) → d < 16 → p (hex_digit d) ≡ false
  pub decimal : (b : ℕ) → 48 ≤ b → b ≤ 57 → p b ≡ false
  pub high : (b : ℕ) → 60 ≤ b → b ≤ 122 → p b ≡ false
  pub space : p 32 ≡ false
  pub dot : p 46 ≡ false
  pub comma : p 44 ≡ false

digit_range : (d : ℕ) → d < 16 → 48 ≤ hex_digit d
digit_range d h = grind (arith, nat_tests)

no_semicolon_digit : (d : ℕ) → d < 16 → is_semicolon (hex_digit d) ≡ false
no_semicolon_digit d h = grind (arith, nat_tests)

no_hash_digit : (d : ℕ) → d < 16 → is_hash (hex_digit d) ≡ false
no_hash_digit d h = ne_eqb (hex_digit d) 35 (λ e. omega (arith, digit_range d h))

no_feed_digit : (d : ℕ) → d < 16 → is_lf (hex_digit d) ≡ false
no_feed_digit d h = ne_eqb (hex_digit d) 10 (λ e. omega (arith, digit_range d h))

pub semicolon_separates : Separates is_semicolon
semicolon_separates = record { digit = no_semicolon_digit; decimal = λ b low high. ne_eqb b 59 (λ e. omega arith); high = λ b low high. ne_eqb b 59 (λ e. omega arith); space = refl; dot = refl; comma = refl }

pub hash_separates : Separates is_hash
hash_separates = record { digit = no_hash_digit; decimal = λ b low high. ne_eqb b 35 (λ e. omega arith); high = λ b low high. ne_eqb b 35 (λ e. omega arith); space = refl; dot = refl; comma = refl }

pub feed_separates : Separates is_lf
feed_separates = record { digit = no_feed_digit; decimal = λ b low high. ne_eqb b 10 (λ e. omega arith); high = λ b low high. ne_eqb b 10 (λ e. omega arith); space = refl; dot = refl; comma = refl }

-- ---- names

name_semicolon : (b : ℕ) → is_name_byte b ≡ true → is_semicolon b ≡ false
name_semicolon b h = not-true (is_semicolon b) (and_parts (nat_le 32 b && nat_le b 126) (not (b == 59)) h).1

name_feed : (b : ℕ) → is_name_byte b ≡ true → is_lf b ≡ false
name_feed b h =
    let k = and_parts (nat_le 32 b && nat_le b 126) (not (b == 59)) h in
    let m = and_parts (nat_le 32 b) (nat_le b 126) k.0 in
    ne_eqb b 10 (λ e. omega (arith, leb-true 32 b m.0))

pub name_bytes : (bs : List ℕ) → is_name bs ≡ true → list_all is_name_byte bs ≡ true
name_bytes [] h = refl
name_bytes (b ∷ bs) h = h

pub name_no_semicolon : (bs : List ℕ) → is_name bs ≡ true → Lacks is_semicolon bs
name_no_semicolon bs h = lacks_all is_semicolon is_name_byte bs name_semicolon (name_bytes bs h)

pub name_no_feed : (bs : List ℕ) → is_name bs ≡ true → Lacks is_lf bs
name_no_feed bs h = lacks_all is_lf is_name_byte bs name_feed (name_bytes bs h)
