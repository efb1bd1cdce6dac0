-- Numbers by what counts of names.
-- number_in m key             the number of the names of which this is what counts; None where they have none
-- found_in direct rows key    the less of the numbers of a key in two maps
-- index_in_names n key        which property a key names, by a table of the names of properties
use Rattle.std.specs.Prelude.{ℕ, List, Option, bytes_eq, option_map}
use Rattle.indexmap.specs.IndexMap.{get_by}
use Rattle.property_aliases.specs.Loose.{loose}
use Rattle.property_aliases.specs.LooseNames.{name_bytes}
use Rattle.property_aliases.specs.Properties.{index_at}
use Rattle.property_aliases.specs.ResolvingLaws.{least}
use Rattle.property_aliases.specs.declared.naming.Names.{Names}
use Rattle.property_aliases.specs.declared.number_map.NumberMap.{NumberMap}

abbrev pub number_in : NumberMap → List ℕ → Option ℕ
number_in m key = get_by (λ name. bytes_eq key (loose (name_bytes name))) m.map

abbrev pub found_in : NumberMap → NumberMap → List ℕ → Option ℕ
found_in direct rows key = least (number_in direct key) (number_in rows key)

abbrev pub index_in_names : Names → List ℕ → Option ℕ
index_in_names n key = option_map index_at (found_in n.direct n.rows key)
