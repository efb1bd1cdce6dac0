use Rattle.std.proofs.Common.{◌≡◌, ℕ, true, take}
use Rattle.number_sets.specs.Keys.{is_in as has_key}
use Rattle.mention_index.specs.Steps.{LeadFrom}
use Rattle.mention_index.proofs.putting.put_steps.Given as goal

-- there is a step from each of the points so far
abbrev pub invariant-points : goal.invariant-points
invariant-points l = record {
  grows : (k : ℕ) → has_key l.initial.keys.items k ≡ true → has_key l.keys.items k ≡ true;
  put : LeadFrom (has_key l.keys.items) (take l.x-index l.points) l.c;
}
