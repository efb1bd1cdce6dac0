-- What the text of a code point is: the fewest hexadecimal digits that spell it, but no fewer than four.
-- IsUpperHex b                b is a byte from `0` to `9` or from `A` to `F`
-- HexTextHasFourToSixDigits   the text has four, five or six bytes
-- HexTextHasNoSpareDigit      where it has more than four, the first is not the digit 0, for numbers below 16 ^ 6
-- HexTextIsUpperCase          each byte is a digit in upper case
-- HexTextSpellsItsNumber      read as hexadecimal digits, the text of a number is that number
-- HexTextSpellsItsPoint       read as a code point, the text of a code point is that point
-- SpanTextSpellsItsSpan       read as a span, the text of a span is that span
use Rattle.std.specs.Prelude.{◌≡◌, ◌≢◌, ◌≤◌, ◌<◌, ◌^◌, ◌⊎◌, ℕ, Some, length, slice_get, All}
use Rattle.ucd_points.specs.Bounds.{Bounds}
use Rattle.ucd_points.specs.Fields.{hex_number, point_of, span_of}
use Rattle.ucd_points.specs.HexText.{hex_text, span_text}

abbrev pub IsUpperHex : ℕ → Type 0
IsUpperHex b = ((48 ≤ b) × (b ≤ 57)) ⊎ ((65 ≤ b) × (b ≤ 70))

abbrev pub HexTextHasFourToSixDigits : Type 0
HexTextHasFourToSixDigits = (c : ℕ) → (4 ≤ length (hex_text c)) × (length (hex_text c) ≤ 6)

abbrev pub HexTextHasNoSpareDigit : Type 0
HexTextHasNoSpareDigit = (c : ℕ) → c < 16 ^ 6 → 4 < length (hex_text c) → slice_get (hex_text c) 0 ≢ Some 48

abbrev pub HexTextIsUpperCase : Type 0
HexTextIsUpperCase = (c : ℕ) → All IsUpperHex (hex_text c)

abbrev pub HexTextSpellsItsNumber : Type 0
HexTextSpellsItsNumber = (c : ℕ) → c < 16 ^ 6 → hex_number (hex_text c) ≡ Some c

abbrev pub HexTextSpellsItsPoint : Type 0
HexTextSpellsItsPoint = (c : ℕ) → c < 1114112 → point_of (hex_text c) ≡ Some c

abbrev pub SpanTextSpellsItsSpan : Type 0
SpanTextSpellsItsSpan = (s : Bounds) → s.lo ≤ s.hi → s.hi < 1114112 → span_of (span_text s) ≡ Some s
