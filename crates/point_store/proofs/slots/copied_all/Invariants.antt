use Rattle.std.proofs.Common.{◌≡◌, take}
use Rattle.point_store.proofs.slots.copied_all.Given as goal

-- what was copied is the front of the values
abbrev pub invariant-values : goal.invariant-values
invariant-values g l = l.copies.items ≡ take l.value-index l.values
