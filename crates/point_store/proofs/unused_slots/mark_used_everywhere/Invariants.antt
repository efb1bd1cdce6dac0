use Rattle.std.proofs.Common.{◌≡◌, ◌<◌, ℕ, false}
use Rattle.point_store.specs.Slots.{is_unused}
use Rattle.point_stretches.specs.Stretches.{Gives, TellsAlike}
use Rattle.point_store.proofs.unused_slots.mark_used_everywhere.Given as goal

-- the places of the code points so far are used
abbrev pub invariant-stretches : goal.invariant-stretches
invariant-stretches g l = record {
  same : l.span-iterator.last_of ≡ l.fn.last_of;
  used : (places : ℕ → ℕ) → TellsAlike (goal.F-post g l.fn.last_of) places → Gives (goal.G-post g l.place_of) places → (c : ℕ) → c < l.span-iterator.from → is_unused l.unused (places c) ≡ false;
  others : (p : ℕ) → is_unused l.initial.unused p ≡ false → is_unused l.unused p ≡ false;
}
