use Rattle.std.proofs.Common.{◌≡◌, ℕ, List, Some, drop}
use Rattle.property_aliases.specs.NumberMaps.{number_in}
use Rattle.property_aliases.specs.ResolvingLaws.{least, put}
use Rattle.property_aliases.proofs.naming.put_row.Given as goal

-- the numbers so far, and those of what is left, are those of all
abbrev pub invariant-names : goal.invariant-names
invariant-names l = (key : List ℕ) → least (number_in l.rows key) (put (drop l.name-index l.row) key (Some l.number)) ≡ least (number_in l.initial.rows key) (put l.row key (Some l.number))
