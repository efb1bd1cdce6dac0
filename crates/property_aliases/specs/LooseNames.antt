-- Names as the code keeps them.
-- name_bytes n   the name as it is written
use Rattle.std.specs.Prelude.{ℕ, List}
use Rattle.property_aliases.specs.declared.loose_name.LooseName.{LooseName}
use Rattle.property_aliases.specs.declared.loose_name.LooseName.TheVariants.{Kept, Asked}

abbrev pub name_bytes : LooseName → List ℕ
name_bytes (Kept name) = name.items
name_bytes (Asked name) = name.now
