use Rattle.std.proofs.Common.{◌≡◌, length, flat_map, fold}
use Rattle.std.specs.Hash as fed
use Rattle.property_aliases.specs.Loose.{loose}
use Rattle.property_aliases.proofs.loose_name.hash_loose.Given as goal

-- what is left to hash makes the state that all makes
abbrev pub invariant-bytes : goal.invariant-bytes
invariant-bytes g l = fold g.H.Hasher.write l.state (flat_map fed.u8 (loose l.rest)) ≡ fold g.H.Hasher.write l.initial.state (flat_map fed.u8 (loose l.name))

abbrev pub decreases-bytes : goal.decreases-bytes
decreases-bytes g l = length (loose l.rest)
