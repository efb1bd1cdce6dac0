use Rattle.std.proofs.Common.{◌≡◌, ℕ, ◌*◌, ◌≤◌, ◌<◌, ◌||◌, length}
use Rattle.number_sets.specs.Bits.{has_number, is_between}
use Rattle.number_sets.proofs.bit_set.BitSet.insert_all.Given as goal

-- the numbers of the words so far are in, and of the others those that were
abbrev pub invariant-places : goal.invariant-places
invariant-places l = record {
  within : l.end ≤ length l.self.words.items;
  done : (k : ℕ) → k < l.place * 64 → has_number l.self k ≡ (has_number l.fn.self k || is_between l.fn.first l.fn.last k);
  left : (k : ℕ) → l.place * 64 ≤ k → has_number l.self k ≡ has_number l.fn.self k;
}
