use Rattle.std.proofs.Common.{◌≤◌, length}
use Rattle.point_store.proofs.slots.list_free.Given as goal

abbrev pub invariant-places : goal.invariant-places
invariant-places g l = l.at ≤ length l.more

abbrev pub decreases-places : goal.decreases-places
decreases-places g l = l.at
