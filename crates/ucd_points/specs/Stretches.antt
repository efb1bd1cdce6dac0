-- Stretches of code points of which one thing holds.
-- HoldsTo P c last   last is not before c, and P holds of all numbers from c to last
use Rattle.std.specs.Prelude.{ℕ, ◌≤◌}

pub record HoldsTo (P : ℕ → Type 0) (c last : ℕ) : Type 0 where
  pub from : c ≤ last
  pub each : (d : ℕ) → c ≤ d → d ≤ last → P d
