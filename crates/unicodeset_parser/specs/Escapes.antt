-- Escapes of characters. UTS #35, "Unicode Sets".
-- spelled size number      a letter of that size, where hexadecimal digits write a code point; else a bad escape
-- fixed_digits n bs        the escape whose n digits stand first in the bytes; two bytes stand before them
-- braced_digits bs         the escape whose one to six digits a `}` ends; three bytes stand before them
-- any_digits n bs          the one where a `{` stands first, else the other
-- control_of c             what a letter behind `\` stands for, where it is one of `abtnvfr`
-- is_letter_or_digit c     the code point is an ASCII letter or digit
-- plain_escape c size      the escape of a code point that takes so many bytes: a control character, a bad escape for other ASCII letters and
--                          digits, else that code point
use Rattle.std.specs.Prelude.{ℕ, ◌+◌, Bool, ◌&&◌, ◌||◌, ◌==◌, nat_le, List, length, take, drop, Option, Some, None, if◌then◌else◌}
use Rattle.std.specs.List.{position_or_len}
use Rattle.ucd_points.specs.Fields.{hex_number, if_point}
use Rattle.unicodeset_parser.specs.Bytes.{begins_with}
use Rattle.unicodeset_parser.specs.Tokens.{Lexed, sized, letter, wrong}
use Rattle.unicodeset_parser.specs.declared.token.BadToken.TheVariants.{BadEscape}

abbrev pub bad_escape : Lexed
bad_escape = sized 1 (wrong BadEscape)

abbrev pub spelled : ℕ → Option ℕ → Lexed
spelled size None = bad_escape
spelled size (Some c) = sized size (letter c)

unfoldable pub fixed_digits : ℕ → List ℕ → Lexed
fixed_digits n bs = if nat_le n (length bs) then spelled (2 + n) (if_point (hex_number (take n bs))) else bad_escape

abbrev pub brace_at : List ℕ → ℕ
brace_at bs = position_or_len (λ b. b == 125) bs

unfoldable pub braced_digits : List ℕ → Lexed
braced_digits bs = let n = brace_at bs in if nat_le (length bs) n || (n == 0 || nat_le 7 n) then bad_escape else spelled (4 + n) (if_point (hex_number (take n bs)))

abbrev pub any_digits : ℕ → List ℕ → Lexed
any_digits n bs = if begins_with 123 bs then braced_digits (drop 1 bs) else fixed_digits n bs

unfoldable pub control_of : ℕ → Option ℕ
control_of c = if c == 97 then Some 7 else (if c == 98 then Some 8 else (if c == 116 then Some 9 else (if c == 110 then Some 10 else (if c == 118 then Some 11 else (if c == 102 then Some 12 else (if c == 114 then Some 13 else None))))))

unfoldable pub is_letter_or_digit : ℕ → Bool
is_letter_or_digit c = (nat_le 48 c && nat_le c 57) || ((nat_le 65 c && nat_le c 90) || (nat_le 97 c && nat_le c 122))

abbrev pub control_or : Option ℕ → ℕ → ℕ → Lexed
control_or (Some control) c size = sized 2 (letter control)
control_or None c size = if is_letter_or_digit c then bad_escape else sized (1 + size) (letter c)

unfoldable pub plain_escape : ℕ → ℕ → Lexed
plain_escape c size = control_or (control_of c) c size
