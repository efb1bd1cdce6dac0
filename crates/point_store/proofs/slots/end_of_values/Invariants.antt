use Rattle.std.proofs.Common.{◌≡◌, ◌≤◌, ℕ, None, length, slice_index_or}
use Rattle.point_store.proofs.slots.end_of_values.Given as goal

-- behind the end no value is held
abbrev pub invariant-places : goal.invariant-places
invariant-places g l = record {
  within : l.end ≤ length l.more;
  none : (i : ℕ) → l.end ≤ i → slice_index_or l.more i None ≡ None;
}

abbrev pub decreases-places : goal.decreases-places
decreases-places g l = l.end
