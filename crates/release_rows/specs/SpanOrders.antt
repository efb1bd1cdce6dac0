-- Spans by their first code points, each of which reaches as far as all before it.
-- bounds_of b                  such a span, from its first code point to the last one that it reaches
-- IsOrder bs                   both go up
-- reach_with bs hi             how far spans reach that go on with one up to hi
-- NoneBeginsBehind lo spans    no span begins behind lo
use Rattle.std.specs.Prelude.{ℕ, ◌≤◌, ◌-◌, max, List, length, Option, Some, None, All, slice_get}
use Rattle.std.specs.List.Sorted.{IsNonDecreasingBy}
use Rattle.ucd_points.specs.Bounds.{Bounds}
use Rattle.release_rows.specs.declared.span_order.Begun.{Begun}

abbrev pub bounds_of : Begun → Bounds
bounds_of b = record { lo = b.first; hi = b.reach }

pub record IsOrder (bs : List Begun) : Type 0 where
  pub firsts : IsNonDecreasingBy (λ (b : Begun). b.first) bs
  pub reaches : IsNonDecreasingBy (λ (b : Begun). b.reach) bs

abbrev pub max_with : Option Begun → ℕ → ℕ
max_with None hi = hi
max_with (Some before) hi = max before.reach hi

abbrev pub reach_with : List Begun → ℕ → ℕ
reach_with bs hi = max_with (slice_get bs (length bs - 1)) hi

abbrev pub NoneBeginsBehind : ℕ → List Bounds → Type 0
NoneBeginsBehind lo spans = All (λ (b : Bounds). b.lo ≤ lo) spans
