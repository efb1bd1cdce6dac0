-- Properties by their names. UAX #44, sections 5.1 and 5.8.
-- built_in              the properties that are built in, in order
-- property_names s      the names of properties in order: two of each that is built in, then those of PropList.txt
-- index_at place        which property the name at a place of that list is of, counted from 0
-- property_by i         property i: one that is built in, or a listed one
-- index_named s key     which property the key names: the first; None where it names none
-- property_key s key    that property
-- property_of s name    the property that a name names, with or without `is`
use Rattle.std.specs.Prelude.{ℕ, ◌-◌, ◌/◌, if◌then◌else◌, nat_lt, List, [], ◌∷◌, ◌++◌, map, Option, unwrap_or, slice_get, option_map}
use Rattle.ucd_facts.specs.Predicates.{core_properties}
use Rattle.ucd_facts.specs.declared.form.Form.TheVariants.{Nfd, Nfc, Nfkd, Nfkc}
use Rattle.property_aliases.specs.declared.property.Property.{Property}
use Rattle.property_aliases.specs.declared.property.Property.TheVariants.{Category, Script, Class, Decomposition, WordBreak, Quick, Core, Exclusion, ChangesCasefold, Listed}
use Rattle.property_aliases.specs.Resolving.{number_of, or_is}
use Rattle.property_aliases.specs.Sources.{Sources}
use Rattle.property_aliases.specs.Tables.{built_in_names}

abbrev pub built_in : List Property
built_in =
    Category ∷ Script ∷ Class ∷ Decomposition ∷ WordBreak ∷ Quick Nfd ∷ Quick Nfc ∷ Quick Nfkd ∷ Quick Nfkc
    ∷ (map Core core_properties ++ Exclusion ∷ ChangesCasefold ∷ [])

abbrev pub property_names : Sources → List (List ℕ)
property_names s = built_in_names ++ s.listed

abbrev pub index_at : ℕ → ℕ
index_at place = if nat_lt place 60 then place / 2 else place - 30

abbrev pub property_by : ℕ → Property
property_by i = unwrap_or (slice_get built_in i) (Listed (i - 30))

abbrev pub index_named : Sources → List ℕ → Option ℕ
index_named s key = option_map index_at (number_of (property_names s) s.properties key)

abbrev pub property_key : Sources → List ℕ → Option Property
property_key s key = option_map property_by (index_named s key)

abbrev pub property_of : Sources → List ℕ → Option Property
property_of s name = or_is (property_key s) name
