use Rattle.std.proofs.Common.{◌≡◌, ℕ, ◌*◌, ◌≤◌, ◌<◌, false}
use Rattle.number_sets.specs.Bits.{has_number}
use Rattle.number_sets.proofs.bit_set.BitSet.has_any.Given as goal

-- none of the numbers of the words so far is in
abbrev pub invariant-places : goal.invariant-places
invariant-places l = (k : ℕ) → l.fn.first ≤ k → k ≤ l.fn.last → k < l.place * 64 → has_number l.self k ≡ false
