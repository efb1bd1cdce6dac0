-- White space in a text. UTS #35, "Unicode Sets"; UAX #31, section 4, "Pattern_White_Space".
-- is_white c            the code point is white space: 0009 to 000D, 0020, 0085, 200E, 200F, 2028 or 2029
-- white_size d          how many bytes a character takes that is white space; 0 for another, and for what is no character
-- blank_size bs         the same of the first character of the bytes; 0 for no bytes
-- closes k bs           behind k bytes, and then any white space, stands a `]`
use Rattle.std.specs.Prelude.{ℕ, zero, suc, Bool, false, ◌&&◌, ◌||◌, ◌==◌, nat_le, List, [], ◌∷◌, Option, Some, None, if◌then◌else◌}
use Rattle.bstr.specs.Utf8.{decoded}

unfoldable pub is_white : ℕ → Bool
is_white c = (nat_le 9 c && nat_le c 13) || (c == 32 || (c == 133 || (c == 8206 || (c == 8207 || (c == 8232 || c == 8233)))))

abbrev pub white_size : Option ℕ → ℕ → ℕ
white_size None size = 0
white_size (Some c) size = if is_white c then size else 0

unfoldable pub blank_size : List ℕ → ℕ
blank_size bs = white_size (decoded bs).char (decoded bs).size

-- by the white space that the bytes begin with, of which n bytes are left
abbrev pub closes_by : ℕ → ℕ → (ℕ → Bool) → Bool
closes_by zero b behind = b == 93
closes_by (suc n) b behind = behind n

abbrev pub closes : ℕ → List ℕ → Bool
closes k [] = false
closes zero (b ∷ bs) = closes_by (blank_size (b ∷ bs)) b (λ n. closes n bs)
closes (suc k) (b ∷ bs) = closes k bs
