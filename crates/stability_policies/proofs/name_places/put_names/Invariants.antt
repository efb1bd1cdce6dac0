use Rattle.std.proofs.Common.{◌≡◌, ℕ, List, take, ◌&&◌, ◌||◌, ◌==◌, bytes_eq}
use Rattle.std.specs.List.{list_any}
use Rattle.stability_policies.specs.NamePlaces.{is_at}
use Rattle.stability_policies.proofs.name_places.put_names.Given as goal

-- what was there, and the names so far
abbrev pub invariant-loop-name : goal.invariant-loop-name
invariant-loop-name l = (name : List ℕ) (p : ℕ) → list_any (is_at name p) l.into.items ≡ (list_any (is_at name p) l.initial.into.items || (list_any (bytes_eq name) (take l.name-index l.row) && (l.place == p)))
