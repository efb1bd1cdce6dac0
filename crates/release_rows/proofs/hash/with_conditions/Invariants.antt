use Rattle.std.proofs.Common.{◌≡◌, drop}
use Rattle.ucd_facts.specs.Mappings.{spaced_words}
use Rattle.source_rows.specs.Keys.{condition_names}
use Rattle.release_rows.specs.Noted.{names_hash}
use Rattle.release_rows.proofs.ConditionHashes.{hashed_on}
use Rattle.release_rows.proofs.hash.with_conditions.Given as goal

-- the hash so far, with the words that are left, is that of all
abbrev pub invariant-bytes : goal.invariant-bytes
invariant-bytes l = hashed_on l.begun l.gap l.hash (drop l.byte-index l.text) ≡ names_hash l.fn.hash (condition_names (spaced_words l.text))
