use Rattle.std.proofs.Common.{◌≡◌, ℕ, List, length, flat_map}
use Rattle.property_aliases.specs.Kinds.{kind_of, number_at}
use Rattle.property_aliases.specs.NumberMaps.{index_in_names}
use Rattle.property_aliases.specs.Properties.{property_by}
use Rattle.property_aliases.specs.ResolvingLaws.{least, rows_number}
use Rattle.property_aliases.specs.Sources.{alias_rows, unnumbered}
use Rattle.property_aliases.specs.Values.{behind}
use Rattle.property_aliases.proofs.value_rows.numbers_of.Given as goal

-- the numbers so far, and those of the rows that are left, are those of all
abbrev pub invariant-rows : goal.invariant-rows
invariant-rows l = (i : ℕ) (key : List ℕ) →
    least (number_at l.maps.items i key) (rows_number (number_at l.kinds (kind_of (property_by i))) (flat_map (behind (index_in_names l.properties) i) (alias_rows (unnumbered l.left))) key)
    ≡ rows_number (number_at l.kinds (kind_of (property_by i))) (flat_map (behind (index_in_names l.properties) i) (alias_rows (unnumbered l.initial.left))) key

abbrev pub decreases-rows : goal.decreases-rows
decreases-rows l = length l.left
