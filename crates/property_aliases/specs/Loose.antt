-- Loose matching of names. UAX #44, section 5.9.3, rule UAX44-LM3.
-- is_kept b        a byte that counts: all but white space (09 to 0D, 20), `_` and `-`
-- to_lower b       the small letter of an ASCII capital letter; every other byte itself
-- loose n          what counts of a name: its bytes but white space, `_` and `-`, in lower case
-- is_name key n    whether what counts of a name n is this, and there is something that counts
-- has_is key       whether what counts begins with `is`
use Rattle.std.specs.Prelude.{ℕ, ◌+◌, Bool, false, not, ◌&&◌, ◌||◌, ◌==◌, nat_le, if◌then◌else◌, List, [], ◌∷◌, map, filter, bytes_eq}

abbrev pub is_kept : ℕ → Bool
is_kept b = not (b == 95 || b == 45 || b == 32 || (nat_le 9 b && nat_le b 13))

abbrev pub to_lower : ℕ → ℕ
to_lower b = if nat_le 65 b && nat_le b 90 then b + 32 else b

abbrev pub loose : List ℕ → List ℕ
loose n = map to_lower (filter is_kept n)

abbrev pub is_name : List ℕ → List ℕ → Bool
is_name [] n = false
is_name (b ∷ bs) n = bytes_eq (b ∷ bs) (loose n)

abbrev pub has_is : List ℕ → Bool
has_is (a ∷ b ∷ bs) = a == 105 && b == 115
has_is _ = false
