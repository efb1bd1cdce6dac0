-- Entries in order, and those that cannot pass.
-- IsUpTo a b            neither the first nor the last code point descends from one entry to the other
-- IsOrdered entries     so it is of each entry and each one behind it
-- IsOrderedIn xs from to   so it is of those from one place up to another
-- AreWithin reach xs from to   the entries from one place up to another are within the reach
-- NoneIn p xs from to   none of the entries from one place up to another passes p
-- IsWindow p xs from to   none passes outside of these places
use Rattle.std.specs.Prelude.{◌≡◌, ℕ, ◌<◌, ◌≤◌, Bool, false, List, length, slice_index_or}
use Rattle.part_list.specs.declared.reach.Reach.{Reach}
use Rattle.part_list.specs.declared.entry.Entry.{Entry}
use Rattle.part_list.specs.Reaches.{IsWithin}

pub record IsUpTo {A : Type 0} (a b : Entry A) : Type 0 where
  pub code : a.code ≤ b.code
  pub last : a.last ≤ b.last

abbrev pub IsOrdered : {A : Type 0} → List (Entry A) → Type 0
IsOrdered {A} xs = (i j : ℕ) (d : Entry A) → i ≤ j → j < length xs → IsUpTo (slice_index_or xs i d) (slice_index_or xs j d)

abbrev pub IsOrderedIn : {A : Type 0} → List (Entry A) → ℕ → ℕ → Type 0
IsOrderedIn {A} xs from to = (i j : ℕ) (d : Entry A) → from ≤ i → i ≤ j → j < to → j < length xs → IsUpTo (slice_index_or xs i d) (slice_index_or xs j d)

abbrev pub AreWithin : {A : Type 0} → Reach → List (Entry A) → ℕ → ℕ → Type 0
AreWithin {A} reach xs from to = (k : ℕ) (d : Entry A) → from ≤ k → k < to → IsWithin reach (slice_index_or xs k d)

abbrev pub NoneIn : {A : Type 0} → (A → Bool) → List A → ℕ → ℕ → Type 0
NoneIn {A} p xs from to = (k : ℕ) (d : A) → from ≤ k → k < to → p (slice_index_or xs k d) ≡ false

pub record IsWindow {A : Type 0} (p : A → Bool) (xs : List A) (from to : ℕ) : Type 0 where
  pub ordered : from ≤ to
  pub within : to ≤ length xs
  pub before : NoneIn p xs 0 from
  pub behind : NoneIn p xs to (length xs)
