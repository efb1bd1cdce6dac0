use Rattle.std.proofs.Common.{◌≡◌, ◌+◌, ◌-◌, ℕ, List, vec_len}
use Rattle.property_aliases.specs.Kinds.{number_at}
use Rattle.property_aliases.proofs.value_rows.make_maps_up_to.Given as goal

-- no key has another number than before
abbrev pub invariant-maps : goal.invariant-maps
invariant-maps l = (i : ℕ) (key : List ℕ) → number_at l.maps.items i key ≡ number_at l.initial.maps.items i key

abbrev pub decreases-maps : goal.decreases-maps
decreases-maps l = l.index + 1 - vec_len l.maps
