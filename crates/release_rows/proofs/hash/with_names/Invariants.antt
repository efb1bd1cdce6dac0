use Rattle.std.proofs.Common.{◌≡◌, drop}
use Rattle.release_rows.specs.Noted.{names_hash}
use Rattle.release_rows.proofs.hash.with_names.Given as goal

-- the hash so far, with the names that are left, is that of all
abbrev pub invariant-names : goal.invariant-names
invariant-names l = names_hash l.hash (drop l.name-index l.names) ≡ names_hash l.fn.hash l.names
