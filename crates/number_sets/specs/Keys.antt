-- Sets of keys, and the next key of one.
-- is_in keys k           k is in the list
-- has keys k             k is in the set: in its sorted list, or among those that were put in later
-- IsNext p start found   `found` is the least number at or above start that passes p; None if none does
-- IsBetween keys start a b   the keys before place a are below start, and those from place b on are not
-- least a b              the lesser of two numbers, of those that are there
use Rattle.std.specs.Prelude.{◌≡◌, ℕ, ◌<◌, ◌≤◌, Bool, true, false, ◌==◌, ◌||◌, nat_le, if◌then◌else◌, List, length, slice_index_or, Option, Some, None, MatchOption}
use Rattle.std.specs.Ordering.{nat_cmp}
use Rattle.std.specs.BTreeSet.{contains}
use Rattle.std.specs.List.{list_any}
use Rattle.number_sets.specs.declared.key_set.KeySet.{KeySet}

abbrev pub is_in : List ℕ → ℕ → Bool
is_in keys k = list_any (λ y. k == y) keys

unfoldable pub has : KeySet → ℕ → Bool
has keys k = is_in keys.sorted.items k || contains nat_cmp keys.more k

abbrev pub IsNext : (ℕ → Bool) → ℕ → Option ℕ → Type 0
IsNext p start found = MatchOption found ((k : ℕ) → start ≤ k → p k ≡ false)
    (λ number. (start ≤ number) × (p number ≡ true) × ((k : ℕ) → start ≤ k → k < number → p k ≡ false))

pub record IsBetween (keys : List ℕ) (start begin end : ℕ) : Type 0 where
  pub ordered : begin ≤ end
  pub within : end ≤ length keys
  pub below : (i d : ℕ) → i < begin → slice_index_or keys i d < start
  pub above : (i d : ℕ) → end ≤ i → i < length keys → start ≤ slice_index_or keys i d

abbrev pub least : Option ℕ → Option ℕ → Option ℕ
least None b = b
least (Some x) None = Some x
least (Some x) (Some y) = if nat_le x y then Some x else Some y
