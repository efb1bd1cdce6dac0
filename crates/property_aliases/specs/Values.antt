-- Values of properties by their names, and names that stand alone. UAX #44, sections 5.7 and 5.8; UTS #35, "Unicode Sets".
-- index_of p             the place of a property among those that are built in and those that are listed behind them
-- class_names            0 to 254 in decimal
-- names_for s p          the names of the values of a property in order
-- groups                 the groups of categories in order
-- test_at p place        what a code point is tested for, by the place of a name in that list; None past its end, where the
--                        list is built in
-- first_index index row  the property that the first name of a row names, by `index`. The name is taken as it is
-- behind index i row     the later names of a row, as the one item of a list, where its first name names property i; no item
--                        for other rows
-- rows_for s p           the later names of each row of a property
-- value_key s p key      the test that a key means as a value of p: the first value that it names
-- value_of s p name      the same of a name, with or without `is`
-- binary p               that code points have a core property, a listed one, Full_Composition_Exclusion or
--                        Changes_When_NFKC_Casefolded; None of the other properties
-- other_key key          Any, ASCII and Assigned
-- lone_key s key         the test that a key means alone: a General_Category or a group, else a Script, else a property that
--                        code points have or have not, else Any, ASCII or Assigned
-- lone_of s name         the same of a name, with or without `is`
use Rattle.std.specs.Prelude.{ℕ, ◌+◌, ◌-◌, ◌/◌, true, if◌then◌else◌, nat_lt, nat_eq, List, [], ◌∷◌, map, Option, Some, None, slice_get, drop, codes, decimal}
use Rattle.std.specs.List.{flat_map, range_with_len}
use Rattle.std.specs.Option.{option_eq, option_map, option_map_or}
use Rattle.ucd_facts.specs.Enumerations.{categories, kinds, quick_values}
use Rattle.ucd_facts.specs.Sets.{core_place}
use Rattle.ucd_facts.specs.declared.form.Form.TheVariants.{Nfd, Nfc, Nfkd, Nfkc}
use Rattle.property_aliases.specs.declared.property.Group.{Group}
use Rattle.property_aliases.specs.declared.property.Group.TheVariants.{L, LC, M, N, P, S, Z, C}
use Rattle.property_aliases.specs.declared.property.Property.{Property}
use Rattle.property_aliases.specs.declared.property.Property.TheVariants.{Category, Script, Class, Decomposition, WordBreak, Quick, Core, Exclusion, ChangesCasefold, Listed}
use Rattle.property_aliases.specs.declared.property.Test.{Test}
use Rattle.property_aliases.specs.declared.property.Test.TheVariants as test
use Rattle.property_aliases.specs.Loose.{loose, is_name}
use Rattle.property_aliases.specs.Properties.{index_named, property_key}
use Rattle.property_aliases.specs.Resolving.{number_of, or_else, or_is}
use Rattle.property_aliases.specs.Sources.{Sources}
use Rattle.property_aliases.specs.Tables.{category_names, decomposition_names, quick_names, truth_names}

abbrev pub index_of : Property → ℕ
index_of Category = 0
index_of Script = 1
index_of Class = 2
index_of Decomposition = 3
index_of WordBreak = 4
index_of (Quick Nfd) = 5
index_of (Quick Nfc) = 6
index_of (Quick Nfkd) = 7
index_of (Quick Nfkc) = 8
index_of (Core p) = 9 + core_place p
index_of Exclusion = 28
index_of ChangesCasefold = 29
index_of (Listed n) = 30 + n

abbrev pub class_names : List (List ℕ)
class_names = map decimal (range_with_len 0 255)

abbrev pub names_for : Sources → Property → List (List ℕ)
names_for s Category = category_names
names_for s Script = s.scripts
names_for s Class = class_names
names_for s Decomposition = decomposition_names
names_for s WordBreak = s.breaks
names_for s (Quick form) = quick_names
names_for s _ = truth_names

abbrev pub groups : List Group
groups = L ∷ LC ∷ M ∷ N ∷ P ∷ S ∷ Z ∷ C ∷ []

abbrev pub test_at : Property → ℕ → Option Test
test_at Category place = or_else (option_map test.Category (slice_get categories place)) (option_map test.Group (slice_get groups (place - 30)))
test_at Script place = Some (test.Script place)
test_at Class place = if nat_lt place 255 then Some (test.Class place) else None
test_at Decomposition place = option_map test.Decomposition (slice_get kinds place)
test_at WordBreak place = Some (test.WordBreak place)
test_at (Quick form) place = option_map (test.Quick form) (slice_get quick_values (place / 2))
test_at (Core p) place = Some (test.Core p (nat_lt place 4))
test_at Exclusion place = Some (test.Exclusion (nat_lt place 4))
test_at ChangesCasefold place = Some (test.ChangesCasefold (nat_lt place 4))
test_at (Listed n) place = Some (test.Listed n (nat_lt place 4))

abbrev pub first_index : (List ℕ → Option ℕ) → List (List ℕ) → Option ℕ
first_index index [] = None
first_index index (n ∷ ns) = index (loose n)

abbrev pub behind : (List ℕ → Option ℕ) → ℕ → List (List ℕ) → List (List (List ℕ))
behind index i row = if option_eq nat_eq (first_index index row) (Some i) then drop 1 row ∷ [] else []

abbrev pub rows_for : Sources → Property → List (List (List ℕ))
rows_for s p = flat_map (behind (index_named s) (index_of p)) s.values

abbrev pub value_key : Sources → Property → List ℕ → Option Test
value_key s p key = option_map_or (test_at p) (number_of (names_for s p) (rows_for s p) key) None

abbrev pub value_of : Sources → Property → List ℕ → Option Test
value_of s p name = or_is (value_key s p) name

abbrev pub binary : Option Property → Option Test
binary (Some (Core p)) = Some (test.Core p true)
binary (Some Exclusion) = Some (test.Exclusion true)
binary (Some ChangesCasefold) = Some (test.ChangesCasefold true)
binary (Some (Listed n)) = Some (test.Listed n true)
binary _ = None

abbrev pub other_key : List ℕ → Option Test
other_key key =
    if is_name key (codes "Any") then Some test.Any
    else (if is_name key (codes "ASCII") then Some test.Ascii
    else (if is_name key (codes "Assigned") then Some test.Assigned else None))

abbrev pub lone_key : Sources → List ℕ → Option Test
lone_key s key = or_else (value_key s Category key) (or_else (value_key s Script key) (or_else (binary (property_key s key)) (other_key key)))

abbrev pub lone_of : Sources → List ℕ → Option Test
lone_of s name = or_is (lone_key s) name
