-- Kinds of properties, by the built-in names of their values.
-- kind_of p                    the kind of a property
-- kind_names scripts breaks k  the names of the values of kind k
-- number_at maps k key         the number of a key in map k; None where there is no such map
use Rattle.std.specs.Prelude.{ℕ, List, [], ◌∷◌, Option, None, slice_get, slice_index_or}
use Rattle.std.specs.Option.{option_map_or}
use Rattle.property_aliases.specs.NumberMaps.{number_in}
use Rattle.property_aliases.specs.Tables.{category_names, decomposition_names, quick_names, truth_names}
use Rattle.property_aliases.specs.Values.{class_names}
use Rattle.property_aliases.specs.declared.number_map.NumberMap.{NumberMap}
use Rattle.property_aliases.specs.declared.property.Property.{Property}
use Rattle.property_aliases.specs.declared.property.Property.TheVariants.{Category, Script, Class, Decomposition, WordBreak, Quick}

abbrev pub kind_of : Property → ℕ
kind_of Category = 0
kind_of Script = 1
kind_of Class = 2
kind_of Decomposition = 3
kind_of WordBreak = 4
kind_of (Quick form) = 5
kind_of _ = 6

abbrev pub kind_names : List (List ℕ) → List (List ℕ) → ℕ → List (List ℕ)
kind_names scripts breaks k = slice_index_or (category_names ∷ scripts ∷ class_names ∷ decomposition_names ∷ breaks ∷ quick_names ∷ []) k truth_names

abbrev pub number_at : List NumberMap → ℕ → List ℕ → Option ℕ
number_at maps k key = option_map_or (λ m. number_in m key) (slice_get maps k) None
