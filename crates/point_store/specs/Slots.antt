-- Values at places, of which some may have been let go.
-- held_at s p          the value at place p; None where it was let go, and past the last place
-- value_at s p         the same; where there is none, the value at place 0, which is never let go
-- held_behind s        how many places behind place 0 hold a value
-- AreHeld s places     a value is held at the place of each code point
-- is_unused unused p   place p is one of the unused ones
-- AreUsed unused places   the place of no code point is one of them
use Rattle.std.specs.Prelude.{◌≡◌, ℕ, ◌<◌, Bool, true, false, List, ◌∷◌, Option, None, Some, is_some, slice_index_or, count_by, unwrap_or}
use Rattle.point_store.specs.declared.slots.Slots.{Slots}

abbrev pub held_at : {V : Type 0} → Slots V → ℕ → Option V
held_at s p = slice_index_or (Some s.first ∷ s.more.items) p None

abbrev pub value_at : {V : Type 0} → Slots V → ℕ → V
value_at s p = unwrap_or (held_at s p) s.first

abbrev pub held_behind : {V : Type 0} → Slots V → ℕ
held_behind s = count_by is_some s.more.items

abbrev pub AreHeld : {V : Type 0} → Slots V → (ℕ → ℕ) → Type 0
AreHeld s places = (c : ℕ) → c < 1114112 → is_some (held_at s (places c)) ≡ true

abbrev pub is_unused : List Bool → ℕ → Bool
is_unused unused p = slice_index_or unused p false

abbrev pub AreUsed : List Bool → (ℕ → ℕ) → Type 0
AreUsed unused places = (c : ℕ) → c < 1114112 → is_unused unused (places c) ≡ false
