-- The digits that a code point is written in.
-- six_digits c   the last six hexadecimal digits of a number, the most significant first
use Rattle.std.specs.Prelude.{ℕ, ◌/◌, ◌%◌, List, ◌∷◌}
use Rattle.ucd_points.specs.HexText.{hex_digit, four_digits}

abbrev pub six_digits : ℕ → List ℕ
six_digits c = hex_digit (c / 1048576 % 16) ∷ hex_digit (c / 65536 % 16) ∷ four_digits c
