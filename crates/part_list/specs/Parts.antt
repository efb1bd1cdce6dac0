-- A list in parts.
-- flat parts            the parts put together, one behind the other: the list
-- part_at parts k       part k, counted from 0; no entries if there is no such part
-- before parts k        how many entries the first k parts have
-- place parts spot      the place in the list that a spot stands for, counted from 0
-- IsGap parts spot      the spot is before an entry of its part, or at the part's end
-- IsEntry parts spot    the spot is that of an entry
-- spliced xs at n ys    xs with ys in the place of the n entries from place at on
-- PartLists A           the parts now, and the parts next
-- now_in l, next_in l   the list now, and the list next
use Rattle.std.specs.Prelude.{ℕ, ◌+◌, ◌<◌, ◌≤◌, List, [], ◌++◌, length, take, drop, slice_index_or, flat_map}
use Rattle.part_list.specs.declared.spot.Spot.{Spot}

abbrev pub flat : {A : Type 0} → List (List A) → List A
flat parts = flat_map (λ part. part) parts

abbrev pub part_at : {A : Type 0} → List (List A) → ℕ → List A
part_at parts k = slice_index_or parts k []

abbrev pub before : {A : Type 0} → List (List A) → ℕ → ℕ
before parts k = length (flat (take k parts))

abbrev pub place : {A : Type 0} → List (List A) → Spot → ℕ
place parts spot = before parts spot.slot + spot.at

pub record IsGap {A : Type 0} (parts : List (List A)) (spot : Spot) : Type 0 where
  pub part : spot.slot < length parts
  pub within : spot.at ≤ length (part_at parts spot.slot)

pub record IsEntry {A : Type 0} (parts : List (List A)) (spot : Spot) : Type 0 where
  pub part : spot.slot < length parts
  pub within : spot.at < length (part_at parts spot.slot)

abbrev pub spliced : {A : Type 0} → List A → ℕ → ℕ → List A → List A
spliced xs at n ys = take at xs ++ ys ++ drop (at + n) xs

pub record PartLists (A : Type 0) : Type 0 where
  pub now : List (List A)
  pub next : List (List A)

abbrev pub now_in : {A : Type 0} → PartLists A → List A
now_in l = flat l.now

abbrev pub next_in : {A : Type 0} → PartLists A → List A
next_in l = flat l.next
