use Rattle.std.proofs.Common.{◌≡◌, take}
use Rattle.release_rows.specs.Noted.{names_hash}
use Rattle.release_rows.proofs.hash.fields_hash.Given as goal

-- the hash so far, with the names that are left, is that of the first names of the whole
abbrev pub invariant-names : goal.invariant-names
invariant-names l = names_hash l.hash (take l.left l.names) ≡ names_hash 0 (take l.count l.initial.names)

abbrev pub decreases-names : goal.decreases-names
decreases-names l = l.left
