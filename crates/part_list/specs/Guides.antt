-- Bounds of blocks of parts.
-- width                     how many parts a block has
-- Covers guides parts       the first blocks have bounds, and the entries of their parts are within them
-- CoversBut slot guides parts   the same of all blocks but the one of this part
-- RulesOut p parts from to  no entry of the parts from one up to another passes p
use Rattle.std.specs.Prelude.{◌≡◌, ℕ, ◌+◌, ◌*◌, ◌/◌, ◌<◌, ◌≤◌, Bool, false, List, length, slice_index_or, All}
use Rattle.part_list.specs.declared.reach.Reach.{Reach}
use Rattle.part_list.specs.declared.entry.Entry.{Entry}
use Rattle.part_list.specs.Parts.{part_at}
use Rattle.part_list.specs.Reaches.{IsWithin}

abbrev pub width : ℕ
width = 16

abbrev pub Covers : {A : Type 0} → List Reach → List (List (Entry A)) → Type 0
Covers guides parts = (block k : ℕ) (d : Reach) → block < length guides → k < width → All (IsWithin (slice_index_or guides block d)) (part_at parts (block * width + k))

abbrev pub CoversBut : {A : Type 0} → ℕ → List Reach → List (List (Entry A)) → Type 0
CoversBut slot guides parts = (block k : ℕ) (d : Reach) → block < length guides → k < width → (block ≡ slot / width → ⊥) → All (IsWithin (slice_index_or guides block d)) (part_at parts (block * width + k))

abbrev pub RulesOut : {A : Type 0} → (A → Bool) → List (List A) → ℕ → ℕ → Type 0
RulesOut p parts from to = (slot : ℕ) → from ≤ slot → slot < to → All (λ x. p x ≡ false) (part_at parts slot)
