-- The code points, cut into spans of equal records.
-- IsEqualIn R s         each point of the span s has the record of its first point
-- IsCut R lo n pieces   the pieces are spans that follow one another from lo to before n, and R is the same throughout each; no
--                       pieces where lo is n
use Rattle.std.specs.Prelude.{◌≡◌, ◌≤◌, ◌+◌, ℕ, List, [], ◌∷◌}
use Rattle.ucd_points.specs.Bounds.{Bounds}
use Rattle.ucd_model.specs.Records.{Record}

abbrev pub IsEqualIn : (ℕ → Record) → Bounds → Type 0
IsEqualIn R s = (c : ℕ) → s.lo ≤ c → c ≤ s.hi → R c ≡ R s.lo

abbrev pub IsCut : (ℕ → Record) → ℕ → ℕ → List Bounds → Type 0
IsCut R lo n [] = lo ≡ n
IsCut R lo n (s ∷ rest) = (s.lo ≡ lo) × (s.lo ≤ s.hi) × IsEqualIn R s × IsCut R (s.hi + 1) n rest
