-- The spans of code points that stand in a list.
-- AreInOrder points     they are code points, each stands there once, and they ascend
-- point_spans points    their spans: maximal, so that no two of them touch, and ascending
-- IsLast n p spans s rest   of the numbers below n for which p holds, those in `rest` are left; s is the span of the last one before
--                       these, as far as it goes up to there, and `spans` are the spans before s
use Rattle.std.specs.Prelude.{◌≡◌, ◌≤◌, ◌<◌, ◌+◌, ◌-◌, ℕ, Bool, true, false, List, map, filter}
use Rattle.std.specs.List.{range_with_len}
use Rattle.ucd_points.specs.Bounds.{Bounds}
use Rattle.ucd_points.specs.Limits.{point_count}
use Rattle.ucd_model.specs.LabelLemmas.{spans_before}
use Rattle.ucd_model.specs.Sameness.{is_in}
use Rattle.unicodeset_eval.specs.Members.{member_label, member_spans}

abbrev pub AreInOrder : List ℕ → Type 0
AreInOrder points = points ≡ filter (is_in points) (range_with_len 0 point_count)

abbrev pub point_spans : List ℕ → List Bounds
point_spans points = member_spans point_count (is_in points)

pub record IsLast (n : ℕ) (p : ℕ → Bool) (spans : List Bounds) (s : Bounds) (rest : List ℕ) : Type 0 where
  pub ordered : s.lo ≤ s.hi
  pub below : s.hi < n
  pub inside : (k : ℕ) → s.lo ≤ k → k ≤ s.hi → p k ≡ true
  pub starts : (k : ℕ) → k + 1 ≡ s.lo → p k ≡ false
  pub before : spans ≡ map (λ x. x.bounds) (spans_before n (member_label p) s.lo)
  pub left : rest ≡ filter p (range_with_len (s.hi + 1) (n - (s.hi + 1)))
