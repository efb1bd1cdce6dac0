use Rattle.std.proofs.Common.{◌≡◌, ℕ, List, drop}
use Rattle.property_aliases.specs.NumberMaps.{number_in}
use Rattle.property_aliases.specs.ResolvingLaws.{least, rows_number}
use Rattle.property_aliases.proofs.naming.places_by_rows.Given as goal

-- the numbers so far, and those of the rows that are left, are those of all
abbrev pub invariant-rows : goal.invariant-rows
invariant-rows l = (key : List ℕ) → least (number_in l.map key) (rows_number (number_in l.direct) (drop l.row-index l.rows) key) ≡ rows_number (number_in l.direct) l.rows key
