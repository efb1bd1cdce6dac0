-- What the fields of a line spell. UAX #44, section 4.2.
-- trim_start bs               the bytes without the white space, space and tab, at their beginning
-- trim_end bs                 the bytes without the white space at their end
-- trim bs                     the bytes without white space at either end
-- is_semicolon b, is_hash b   the byte is `;`, or `#`
-- uncommented file content    what stands before the first `#`, all where there is none; of a missing line the same of what stands
--                             behind its mark; of UnicodeData.txt the whole content
-- fields file content         the fields of a line, cut at each `;`, each without white space around it; outside of
--                             UnicodeData.txt a comment, from the first `#` on, is no part of them. No bytes have one empty field
-- field fs n                  the field at a place, counted from 0; no bytes past the last
--
-- Code points
-- digit_of b                  what a hexadecimal digit is worth, 0 to 9, A to F or a to f; None for all other bytes
-- with_digit n d              the number with one more digit behind it; None where one of the two is
-- hex_number bs               what hexadecimal digits write, from the left; 0 for no bytes; None where a byte is no digit
-- if_point n                  the number where it is at most 10FFFF, else None
-- point_of bs                 the code point that 4 to 6 hexadecimal digits spell, in either case; None for all other bytes, and
--                             above 10FFFF
--
-- Spans
-- is_dot b                    the byte is `.`
-- SpellsOne bs s              bs is one code point, the first and the last of s
-- SpellsTwo bs s              bs is two code points joined by `..`, the first at most the second, and s goes from one to the
--                             other
-- SpellsSpan bs s             bs is one code point, or two joined by `..`, the first at most the second
-- one_point c                 the span of that code point alone; None where there is none
-- two_points lo hi            the span from one to the other; None where one is None, and where the first is greater
-- behind_dot bs               the code point behind a `.` at the beginning; None where there is no such byte, or no code point
--                             behind it
-- span_of bs                  that span, None where there is none
--
-- Names
-- is_name_byte b              a byte from 20 to 7E other than `;`
-- is_name bs                  one or more bytes from 20 to 7E, without `;`
-- is_label_closed_by closing bs   `<`, a label that is a name, and the closing
-- label_of closing bs         that label: bs without its first byte and without the bytes of the closing at its end
-- is_range_name bs            `<Label, First>` or `<Label, Last>`, with a label that is a name
--
-- Numbers, and simple case mappings
-- is_digit b                  a byte from `0` to `9`
-- decimal_number bs           what decimal digits write, from the left; 0 for no bytes
-- is_class bs                 one to three digits that write a number of at most 254
-- class_of bs                 the decimal number from 0 to 254 that one to three digits write; None for all other bytes
-- some_point c                a mapping to c, where bytes spell it; None where they spell no code point
-- case_of bs                  no bytes: there is none; a code point: that one; None for all other bytes
use Rattle.std.specs.Prelude.{◌≡◌, ◌⊎◌, ℕ, ◌+◌, ◌-◌, ◌*◌, ◌≤◌, Bool, false, ◌&&◌, ◌||◌, not, List, [], ◌∷◌, ◌++◌, length, take, drop, map, Option, Some, None, ◌==◌, nat_lt, nat_le, if◌then◌else◌, unwrap_or, codes, fold, bytes_eq}
use Rattle.std.specs.List.{slice_split, suffix_len, before_first, after_first, position_or_len, list_all}
use Rattle.ucd_points.specs.Bounds.{Bounds}
use Rattle.ucd_points.specs.Lines.{is_blank, unindented}
use Rattle.ucd_points.specs.MissingLines.{missing_rest}
use Rattle.ucd_points.specs.declared.files.SourceFile.{SourceFile}
use Rattle.ucd_points.specs.declared.files.SourceFile.TheVariants.{UnicodeData}

-- ---- fields

abbrev pub trim_start : List ℕ → List ℕ
trim_start bs = unindented bs

abbrev pub trim_end : List ℕ → List ℕ
trim_end bs = take (length bs - suffix_len is_blank bs) bs

abbrev pub trim : List ℕ → List ℕ
trim bs = trim_end (trim_start bs)

abbrev pub is_semicolon : ℕ → Bool
is_semicolon b = b == 59

abbrev pub is_hash : ℕ → Bool
is_hash b = b == 35

abbrev pub uncommented : SourceFile → List ℕ → List ℕ
uncommented UnicodeData content = content
uncommented file content = before_first is_hash (unwrap_or (missing_rest file content) content)

unfoldable pub fields : SourceFile → List ℕ → List (List ℕ)
fields file content = map trim (slice_split is_semicolon (uncommented file content))

abbrev pub field : List (List ℕ) → ℕ → List ℕ
field [] n = []
field (f ∷ fs) n = if n == 0 then f else field fs (n - 1)

-- ---- code points

abbrev pub digit_of : ℕ → Option ℕ
digit_of b = if nat_le 48 b && nat_le b 57 then Some (b - 48) else (if nat_le 65 b && nat_le b 70 then Some (b - 55) else (if nat_le 97 b && nat_le b 102 then Some (b - 87) else None))

abbrev pub with_digit : Option ℕ → Option ℕ → Option ℕ
with_digit (Some n) (Some d) = Some (16 * n + d)
with_digit _ _ = None

abbrev pub hex_number : List ℕ → Option ℕ
hex_number bs = fold (λ n b. with_digit n (digit_of b)) (Some 0) bs

abbrev pub if_point : Option ℕ → Option ℕ
if_point (Some n) = if nat_lt n 1114112 then Some n else None
if_point None = None

unfoldable pub point_of : List ℕ → Option ℕ
point_of bs = if nat_le 4 (length bs) && nat_le (length bs) 6 then if_point (hex_number bs) else None

-- ---- spans

abbrev pub is_dot : ℕ → Bool
is_dot b = b == 46

pub record SpellsTwo (bs : List ℕ) (s : Bounds) : Type 0 where
  pub first : List ℕ
  pub second : List ℕ
  pub parts : bs ≡ first ++ 46 ∷ 46 ∷ second
  pub lo : point_of first ≡ Some s.lo
  pub hi : point_of second ≡ Some s.hi
  pub ordered : s.lo ≤ s.hi

pub record SpellsOne (bs : List ℕ) (s : Bounds) : Type 0 where
  pub lo : point_of bs ≡ Some s.lo
  pub hi : s.hi ≡ s.lo

abbrev pub SpellsSpan : List ℕ → Bounds → Type 0
SpellsSpan bs s = SpellsOne bs s ⊎ SpellsTwo bs s

abbrev pub one_point : Option ℕ → Option Bounds
one_point (Some c) = Some (record { lo = c; hi = c })
one_point None = None

abbrev pub two_points : Option ℕ → Option ℕ → Option Bounds
two_points (Some lo) (Some hi) = if nat_le lo hi then Some (record { lo = lo; hi = hi }) else None
two_points _ _ = None

abbrev pub behind_dot : List ℕ → Option ℕ
behind_dot [] = None
behind_dot (b ∷ bs) = if b == 46 then point_of bs else None

unfoldable pub span_of : List ℕ → Option Bounds
span_of bs = if nat_lt (position_or_len is_dot bs) (length bs) then two_points (point_of (before_first is_dot bs)) (behind_dot (after_first is_dot bs)) else one_point (point_of bs)

-- ---- names

abbrev pub is_name_byte : ℕ → Bool
is_name_byte b = (nat_le 32 b && nat_le b 126) && not (b == 59)

abbrev pub is_name : List ℕ → Bool
is_name [] = false
is_name (b ∷ bs) = list_all is_name_byte (b ∷ bs)

unfoldable pub is_label_closed_by : List ℕ → List ℕ → Bool
is_label_closed_by closing bs = (bytes_eq (take 1 bs) (codes "<") && bytes_eq (drop (length bs - length closing) bs) closing) && is_name (drop 1 (take (length bs - length closing) bs))

abbrev pub label_of : List ℕ → List ℕ → List ℕ
label_of closing bs = drop 1 (take (length bs - length closing) bs)

abbrev pub is_range_name : List ℕ → Bool
is_range_name bs = is_label_closed_by (codes ", First>") bs || is_label_closed_by (codes ", Last>") bs

-- ---- numbers

abbrev pub is_digit : ℕ → Bool
is_digit b = nat_le 48 b && nat_le b 57

abbrev pub decimal_number : List ℕ → ℕ
decimal_number bs = fold (λ n b. 10 * n + (b - 48)) 0 bs

abbrev pub is_class : List ℕ → Bool
is_class bs = ((nat_le 1 (length bs) && nat_le (length bs) 3) && list_all is_digit bs) && nat_le (decimal_number bs) 254

unfoldable pub class_of : List ℕ → Option ℕ
class_of bs = if is_class bs then Some (decimal_number bs) else None

-- ---- simple case mappings

abbrev pub some_point : Option ℕ → Option (Option ℕ)
some_point (Some c) = Some (Some c)
some_point None = None

abbrev pub case_of : List ℕ → Option (Option ℕ)
case_of [] = Some None
case_of (b ∷ bs) = some_point (point_of (b ∷ bs))
