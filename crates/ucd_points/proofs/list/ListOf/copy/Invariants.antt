use Rattle.std.proofs.Common.{◌≡◌, take}
use Rattle.ucd_points.proofs.list.ListOf.copy.Given as goal

-- what was copied is the front of the list
abbrev pub invariant-loop-item : goal.invariant-loop-item
invariant-loop-item g l = (l.item-items ≡ l.self) × (l.items.items ≡ take l.item-index l.item-items)
