use Rattle.std.proofs.Common.{◌≡◌, drop}
use Rattle.release_rows.specs.Noted.{hash_on}
use Rattle.release_rows.proofs.hash.with_bytes.Given as goal

-- the hash so far, with the bytes that are left, is that of all
abbrev pub invariant-bytes : goal.invariant-bytes
invariant-bytes l = hash_on l.hash (drop l.byte-index l.bytes) ≡ hash_on l.fn.hash l.bytes
