use Rattle.std.proofs.Common.{◌≡◌, ℕ, ◌+◌, ◌<◌, true, get_or}
use Rattle.release_rows.specs.Chains.{ends_before}
use Rattle.release_rows.specs.declared.keyed_extent.KeyedExtent.{KeyedExtent}
use Rattle.release_rows.proofs.keyed_extent.each_ends_before_next.Given as goal

-- each row in front of this one ends before the next one
abbrev pub invariant-rows : goal.invariant-rows
invariant-rows l = (i : ℕ) (d : KeyedExtent) → i + 1 < l.at → ends_before (get_or l.rows i d) (get_or l.rows (i + 1) d) ≡ true
