use Rattle.std.proofs.Common.{◌≡◌, length}
use Rattle.property_aliases.specs.Loose.{loose}
use Rattle.property_aliases.proofs.loose.first_loose_byte.Given as goal

-- nothing in front of the rest counts
abbrev pub invariant-bytes : goal.invariant-bytes
invariant-bytes l = loose l.rest ≡ loose l.name

abbrev pub decreases-bytes : goal.decreases-bytes
decreases-bytes l = length l.rest
