use Rattle.std.proofs.Common.{◌≡◌, drop}
use Rattle.property_aliases.specs.NumberMaps.{number_in}
use Rattle.property_aliases.specs.ResolvingLaws.{least, row_number}
use Rattle.property_aliases.proofs.naming.least_place_of_row.Given as goal

-- the least so far, and of what is left, is that of all
abbrev pub invariant-names : goal.invariant-names
invariant-names l = least l.number (row_number (number_in l.direct) (drop l.name-index l.row)) ≡ row_number (number_in l.direct) l.row
