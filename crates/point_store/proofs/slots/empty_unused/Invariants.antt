use Rattle.std.proofs.Common.{◌≡◌, ◌+◌, ◌-◌, ℕ, None, false, length, slice_index_or}
use Rattle.point_store.specs.Slots.{is_unused}
use Rattle.point_store.proofs.slots.empty_unused.Given as goal

-- the values at used places are still there
abbrev pub invariant-places : goal.invariant-places
invariant-places g l = record {
  length : length l.more ≡ length l.initial.more;
  used : (i : ℕ) → is_unused l.unused (i + 1) ≡ false → slice_index_or l.more i None ≡ slice_index_or l.initial.more i None;
}

abbrev pub decreases-places : goal.decreases-places
decreases-places g l = length l.more - l.at
