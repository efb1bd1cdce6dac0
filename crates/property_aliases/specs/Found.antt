-- What a table of aliases answers.
-- index_in a key         which property a key names
-- property_key_in a key  that property
-- property_in a name     the property that a name names, with or without `is`
-- place_in v p key       the place of the first name of a value of p that a key names
-- value_key_in a p key   what a key means as a value of p
-- value_in a p name      what a name means as a value of p, with or without `is`
-- lone_key_in a key      what a key means alone
-- lone_in a name         what a name means alone, with or without `is`
-- listed_in a            the names of PropList.txt by their numbers
-- scripts_in a           the scripts by their numbers
-- breaks_in a            the word breaks by their numbers
-- AreAliasesOf a s       the answers are those that the rows give
use Rattle.std.specs.Prelude.{◌≡◌, ℕ, List, Option, None}
use Rattle.std.specs.Option.{option_map, option_map_or}
use Rattle.property_aliases.specs.Kinds.{kind_of, number_at}
use Rattle.property_aliases.specs.NumberMaps.{index_in_names}
use Rattle.property_aliases.specs.Numbers.{names_in}
use Rattle.property_aliases.specs.Properties.{property_by, property_of}
use Rattle.property_aliases.specs.Resolving.{or_else, or_is}
use Rattle.property_aliases.specs.ResolvingLaws.{least}
use Rattle.property_aliases.specs.Sources.{Sources}
use Rattle.property_aliases.specs.Values.{binary, index_of, lone_of, other_key, test_at, value_of}
use Rattle.property_aliases.specs.declared.aliases.Aliases.{Aliases}
use Rattle.property_aliases.specs.declared.property.Property.{Property}
use Rattle.property_aliases.specs.declared.property.Property.TheVariants.{Category, Script}
use Rattle.property_aliases.specs.declared.property.Test.{Test}
use Rattle.property_aliases.specs.declared.values.ValueNames.{ValueNames}

abbrev pub index_in : Aliases → List ℕ → Option ℕ
index_in a key = index_in_names a.places.properties key

abbrev pub property_key_in : Aliases → List ℕ → Option Property
property_key_in a key = option_map property_by (index_in a key)

abbrev pub property_in : Aliases → List ℕ → Option Property
property_in a name = or_is (property_key_in a) name

abbrev pub place_in : ValueNames → Property → List ℕ → Option ℕ
place_in v p key = least (number_at v.kinds.items (kind_of p) key) (number_at v.rows.items (index_of p) key)

abbrev pub value_key_in : Aliases → Property → List ℕ → Option Test
value_key_in a p key = option_map_or (test_at p) (place_in a.places.values p key) None

abbrev pub value_in : Aliases → Property → List ℕ → Option Test
value_in a p name = or_is (value_key_in a p) name

abbrev pub lone_key_in : Aliases → List ℕ → Option Test
lone_key_in a key =
    or_else (value_key_in a Category key) (or_else (value_key_in a Script key) (or_else (binary (property_key_in a key)) (other_key key)))

abbrev pub lone_in : Aliases → List ℕ → Option Test
lone_in a name = or_is (lone_key_in a) name

abbrev pub listed_in : Aliases → List (List ℕ)
listed_in a = names_in a.numbers.listed.names

abbrev pub scripts_in : Aliases → List (List ℕ)
scripts_in a = names_in a.numbers.scripts.names

abbrev pub breaks_in : Aliases → List (List ℕ)
breaks_in a = names_in a.numbers.breaks.names

pub record AreAliasesOf (a : Aliases) (s : Sources) : Type 0 where
  pub property : (name : List ℕ) → property_in a name ≡ property_of s name
  pub value : (p : Property) (name : List ℕ) → value_in a p name ≡ value_of s p name
  pub lone : (name : List ℕ) → lone_in a name ≡ lone_of s name
  pub listed : listed_in a ≡ s.listed
  pub scripts : scripts_in a ≡ s.scripts
  pub breaks : breaks_in a ≡ s.breaks
