use Rattle.std.proofs.Common.{◌≡◌, length, bytes_eq}
use Rattle.property_aliases.specs.Loose.{loose}
use Rattle.property_aliases.proofs.loose.is_loosely_same.Given as goal

-- the names are the same if what is left of them is
abbrev pub invariant-bytes : goal.invariant-bytes
invariant-bytes l = bytes_eq (loose l.left) (loose l.right) ≡ bytes_eq (loose l.first) (loose l.second)

abbrev pub decreases-bytes : goal.decreases-bytes
decreases-bytes l = length (loose l.left)
