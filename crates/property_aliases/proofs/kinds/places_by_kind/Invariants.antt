use Rattle.std.proofs.Common.{◌≡◌, ◌-◌, ◌≤◌, ◌<◌, ℕ, List, length, map}
use Rattle.property_aliases.specs.Kinds.{kind_names, number_at}
use Rattle.property_aliases.specs.ResolvingLaws.{direct}
use Rattle.property_aliases.proofs.kinds.places_by_kind.Given as goal

-- the places of the names of the kinds so far
abbrev pub invariant-kinds : goal.invariant-kinds
invariant-kinds l = record {
  below : l.kind ≤ 7;
  len : length l.kinds.items ≡ l.kind;
  places : (k : ℕ) (key : List ℕ) → k < l.kind → number_at l.kinds.items k key ≡ direct (kind_names (map (λ k. k.items) l.scripts) (map (λ k. k.items) l.breaks) k) key;
}

abbrev pub decreases-kinds : goal.decreases-kinds
decreases-kinds l = 7 - l.kind
