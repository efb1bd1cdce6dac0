use Rattle.std.proofs.Common.{◌≡◌, take}
use Rattle.property_aliases.specs.Loose.{loose}
use Rattle.property_aliases.proofs.loose.loose.Given as goal

abbrev pub invariant-bytes : goal.invariant-bytes
invariant-bytes l = l.key.items ≡ loose (take l.byte-index l.name)
