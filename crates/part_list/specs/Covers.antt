-- The code points of which entries of a list may speak.
-- AllSet, NoneSet points first last   the code points from one to another are in; none of them is
-- end_of entry              the greater one of an entry's first and last code points
-- Meets entry first last    an entry has one of the code points from one to another, which do not descend
-- AllMeet p first last      so has each entry that passes p
-- IsOneOf xs x              x is one of the list
-- IsHeld known entry        all code points of the entry are in, or it is one of the wide ones
-- HoldsMore old new         what is held stays so
-- IsCovered cover entry     the entry is held; each is if nothing is known
-- CoversMore old new        what is covered stays so
use Rattle.std.specs.Prelude.{◌≡◌, ◌⊎◌, ℕ, ◌<◌, ◌≤◌, Bool, true, false, List, length, max, Option, Some, None, slice_index_or, box_value}
use Rattle.std.specs.Global.{Box}
use Rattle.number_sets.specs.Bits.{has_number}
use Rattle.number_sets.specs.declared.bit_set.BitSet.{BitSet}
use Rattle.part_list.specs.declared.cover.Cover.{Cover}
use Rattle.part_list.specs.declared.cover.Known.{Known}
use Rattle.part_list.specs.declared.entry.Entry.{Entry}

abbrev pub AllSet : BitSet → ℕ → ℕ → Type 0
AllSet points first last = (p : ℕ) → first ≤ p → p ≤ last → has_number points p ≡ true

abbrev pub NoneSet : BitSet → ℕ → ℕ → Type 0
NoneSet points first last = (p : ℕ) → first ≤ p → p ≤ last → has_number points p ≡ false

abbrev pub end_of : {A : Type 0} → Entry A → ℕ
end_of entry = max entry.code entry.last

pub record Meets {A : Type 0} (entry : Entry A) (first last : ℕ) : Type 0 where
  pub code : entry.code ≤ last
  pub end : first ≤ end_of entry

abbrev pub AllMeet : {A : Type 0} → (Entry A → Bool) → ℕ → ℕ → Type 0
AllMeet {A} p first last = (entry : Entry A) → p entry ≡ true → Meets entry first last

abbrev pub IsOneOf : {A : Type 0} → List A → A → Type 0
IsOneOf xs x = (k : ℕ) × (k < length xs) × (slice_index_or xs k x ≡ x)

abbrev pub IsHeld : {A : Type 0} → Known A → Entry A → Type 0
IsHeld known entry = AllSet known.points entry.code (end_of entry) ⊎ IsOneOf known.wide.items entry

abbrev pub HoldsMore : {A : Type 0} → Known A → Known A → Type 0
HoldsMore {A} old new = (entry : Entry A) → IsHeld old entry → IsHeld new entry

abbrev IsHeldIn : {A : Type 0} → Option (Box (Known A)) → Entry A → Type 0
IsHeldIn None entry = Unit {0}
IsHeldIn (Some known) entry = IsHeld (box_value known) entry

abbrev pub IsCovered : {A : Type 0} → Cover A → Entry A → Type 0
IsCovered cover entry = IsHeldIn cover.known entry

abbrev pub CoversMore : {A : Type 0} → Cover A → Cover A → Type 0
CoversMore {A} old new = (entry : Entry A) → IsCovered old entry → IsCovered new entry
