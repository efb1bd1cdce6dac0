-- The code points that words name.
-- char_of word          the code point of a word that is one character in UTF-8; None for all others
-- or_else found other   what was found, or else the other
-- named_point word      the code point that a word names: by 4 to 6 hexadecimal digits, by `U+` and such digits, or by its one character;
--                       None for all other words
-- names_point word      the word names one
-- points_in words       those that the words name, in order
use Rattle.std.specs.Prelude.{ℕ, ◌==◌, eqb, Bool, is_some, List, length, drop, Option, Some, None, option_to_list, if◌then◌else◌, codes}
use Rattle.std.specs.List.{flat_map, starts_with}
use Rattle.bstr.specs.Utf8.{decoded}
use Rattle.ucd_points.specs.Fields.{if_point, point_of}

abbrev pub char_of : List ℕ → Option ℕ
char_of word = if (decoded word).size == length word then if_point (decoded word).char else None

abbrev pub or_else : Option ℕ → Option ℕ → Option ℕ
or_else (Some found) other = Some found
or_else None other = other

abbrev pub named_point : List ℕ → Option ℕ
named_point word = if starts_with eqb word (codes "U+") then point_of (drop 2 word) else or_else (point_of word) (char_of word)

abbrev pub names_point : List ℕ → Bool
names_point word = is_some (named_point word)

abbrev pub points_in : List (List ℕ) → List ℕ
points_in words = flat_map (λ word. option_to_list (named_point word)) words
