-- The values of a store over a table of places.
-- values now k c    the value of each code point; now reads the table of places
-- places now k c    the place of each code point's value; now reads the table of places
-- held k p          the value at place p; None where none is held, or where it was let go
-- held_count k      how many values are held beside the one that was given at first
use Rattle.std.specs.Prelude.{ℕ, Option}
use Rattle.range_table.specs.declared.table.Table.{Ghosts}
use Rattle.point_store.specs.Slots.{value_at, held_at, held_behind}
use Rattle.point_store.specs.declared.slot_store.SlotStore.{SlotStore}

abbrev pub places : {T V : Type 0} {d : Ghosts T ℕ} → (T → ℕ → ℕ) → SlotStore T V d → ℕ → ℕ
places now k c = now k.places c

abbrev pub values : {T V : Type 0} {d : Ghosts T ℕ} → (T → ℕ → ℕ) → SlotStore T V d → ℕ → V
values now k c = value_at k.slots (places now k c)

abbrev pub held : {T V : Type 0} {d : Ghosts T ℕ} → SlotStore T V d → ℕ → Option V
held k p = held_at k.slots p

abbrev pub held_count : {T V : Type 0} {d : Ghosts T ℕ} → SlotStore T V d → ℕ
held_count k = held_behind k.slots
