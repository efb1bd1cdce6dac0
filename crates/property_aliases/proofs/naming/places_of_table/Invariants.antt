use Rattle.std.proofs.Common.{◌≡◌, ℕ, ◌-◌, ◌≤◌, List, length, take}
use Rattle.property_aliases.specs.NumberMaps.{number_in}
use Rattle.property_aliases.specs.ResolvingLaws.{direct}
use Rattle.property_aliases.proofs.naming.places_of_table.Given as goal

-- the places of the names so far
abbrev pub invariant-names : goal.invariant-names
invariant-names l = record {
  within : l.place ≤ length l.names;
  places : (key : List ℕ) → number_in l.map key ≡ direct (take l.place l.names) key;
}

abbrev pub decreases-names : goal.decreases-names
decreases-names l = length l.names - l.place
