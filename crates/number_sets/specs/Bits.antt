-- Sets of small numbers, a bit for each.
-- bit_in words k            bit k % 64 of the word at k / 64 is set; if there is no word, it is not
-- has_number set k          the set has the number k
-- is_between first last k   the number k is one of those from `first` to `last`, both included; none is if they descend
use Rattle.std.specs.Prelude.{ℕ, ◌/◌, ◌%◌, ◌==◌, ◌&&◌, nat_le, Bool, List, slice_index_or}
use Rattle.std.specs.Int.{bit_at}
use Rattle.number_sets.specs.declared.bit_set.BitSet.{BitSet}

abbrev pub bit_in : List ℕ → ℕ → Bool
bit_in words k = bit_at (slice_index_or words (k / 64) 0) (k % 64) == 1

abbrev pub has_number : BitSet → ℕ → Bool
has_number set k = bit_in set.words.items k

abbrev pub is_between : ℕ → ℕ → ℕ → Bool
is_between first last k = nat_le first k && nat_le k last
