use Rattle.std.proofs.Common.{◌≡◌, ℕ, List, nat_lt, ◌&&◌}
use Rattle.std.specs.List.{list_any}
use Rattle.stability_policies.specs.NamePlaces.{has_name, is_at}
use Rattle.stability_policies.proofs.name_places.NamePlaces.of.Given as goal

-- the names of the rows so far
abbrev pub invariant-loop-place : goal.invariant-loop-place
invariant-loop-place l = (name : List ℕ) (p : ℕ) → list_any (is_at name p) l.entries.items ≡ (nat_lt p l.place && has_name l.rows name p)
