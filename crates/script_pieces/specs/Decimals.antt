-- The numbers of marks.
-- is_plain word           no `+` stands first, and a first 0 stands alone
-- number_of word          the number below 2^32 that the word writes in decimal digits with no zero to spare, which is the value of its
--                         digits; None where it writes none
use Rattle.std.specs.Prelude.{ℕ, ◌^◌, Bool, true, ◌&&◌, ◌==◌, not, nat_lt, List, [], ◌∷◌, Option, Some, None, if◌then◌else◌, decimal, bytes_eq}
use Rattle.std.specs.Str.Parse.{digits_value}

abbrev pub is_plain : List ℕ → Bool
is_plain [] = true
is_plain (b ∷ []) = not (b == 43)
is_plain (b ∷ _ ∷ _) = not (b == 43) && not (b == 48)

abbrev pub number_of : List ℕ → Option ℕ
number_of word = if nat_lt (digits_value 10 word) (2 ^ 32) && bytes_eq word (decimal (digits_value 10 word)) then Some (digits_value 10 word) else None
