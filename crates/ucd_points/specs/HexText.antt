-- The text of code points and spans. UAX #44, section 4.2.
-- hex_digit d     the byte of the hexadecimal digit that is worth d, below 16, in upper case
-- four_digits c   the digits of c that are worth 4096, 256, 16 and 1; what is above them is left out
-- hex_text c      the hexadecimal digits of a code point in upper case: four, from 10000 on five, from 100000 on six
-- span_text s     one code point, or the first and the last joined by `..`
use Rattle.std.specs.Prelude.{ℕ, ◌+◌, ◌/◌, ◌%◌, List, [], ◌∷◌, ◌++◌, ◌==◌, nat_lt, if◌then◌else◌, codes}
use Rattle.ucd_points.specs.Bounds.{Bounds}

abbrev pub hex_digit : ℕ → ℕ
hex_digit d = if nat_lt d 10 then 48 + d else 55 + d

abbrev pub four_digits : ℕ → List ℕ
four_digits c = hex_digit (c / 4096 % 16) ∷ hex_digit (c / 256 % 16) ∷ hex_digit (c / 16 % 16) ∷ hex_digit (c % 16) ∷ []

unfoldable pub hex_text : ℕ → List ℕ
hex_text c = if nat_lt c 65536 then four_digits c else (if nat_lt c 1048576 then hex_digit (c / 65536 % 16) ∷ four_digits c else hex_digit (c / 1048576 % 16) ∷ hex_digit (c / 65536 % 16) ∷ four_digits c)

unfoldable pub span_text : Bounds → List ℕ
span_text s = if s.lo == s.hi then hex_text s.lo else hex_text s.lo ++ codes ".." ++ hex_text s.hi
