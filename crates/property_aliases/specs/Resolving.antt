-- What names mean. UAX #44, section 5.8, "Property and Property Value Aliases".
--
-- Of a name only what counts is looked at (Loose); that is the key below. A row of an alias file is its list of names.
-- ties row key b           whether the row has a name that matches the key, and one that matches the name b
-- names rows b key         whether the key matches the name b, or some row ties them
-- number_of table rows key   the place of the first name of a table that the key names; None where it names none
-- or_is find n             what `find` says of a name: as it is, or, where it says nothing, without `is` before it
use Rattle.std.specs.Prelude.{ℕ, Bool, ◌&&◌, ◌||◌, if◌then◌else◌, List, Option, Some, None, position, drop}
use Rattle.std.specs.List.{list_any}
use Rattle.property_aliases.specs.Loose.{loose, is_name, has_is}

abbrev pub ties : List (List ℕ) → List ℕ → List ℕ → Bool
ties row key b = list_any (λ n. is_name key n) row && list_any (λ n. is_name (loose n) b) row

abbrev pub names : List (List (List ℕ)) → List ℕ → List ℕ → Bool
names rows b key = is_name key b || list_any (λ row. ties row key b) rows

abbrev pub number_of : List (List ℕ) → List (List (List ℕ)) → List ℕ → Option ℕ
number_of table rows key = position (λ b. names rows b key) table

abbrev pub or_else : {X : Type 0} → Option X → Option X → Option X
or_else (Some x) other = Some x
or_else None other = other

abbrev pub or_is : {X : Type 0} → (List ℕ → Option X) → List ℕ → Option X
or_is find n = or_else (find (loose n)) (if has_is (loose n) then find (drop 2 (loose n)) else None)
