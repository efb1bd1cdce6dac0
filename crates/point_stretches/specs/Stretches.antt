-- All code points, stretch by stretch.
-- Told post lo hi           a call at lo may tell hi; if it tells a code point before lo, hi is lo
-- IsNext post s x t         a turn: the stretch x begins where those before it ended, and is told
-- GivesStretch post s r t   the same; none is left exactly behind the last code point
-- Follow post a xs b        the stretches xs follow one another without a gap, from a to before b, and each is told
-- TellsAlike post f         what a call tells is not before its code point, and f is the same from there up to it
-- Gives post f              a call gives what f has
-- passing p                 how many code points pass p
use Rattle.std.specs.Prelude.{◌≡◌, ℕ, ◌+◌, ◌<◌, ◌≤◌, max, Bool, List, [], ◌∷◌, Option, count_by, MatchOption}
use Rattle.std.specs.List.{range_with_len}
use Rattle.ucd_points.specs.Bounds.{Bounds}
use Rattle.ucd_points.specs.Limits.{point_count}
use Rattle.point_stretches.specs.declared.stretch_iter.StretchIter.{StretchIter}

abbrev pub Told : (ℕ → ℕ → Type 0) → ℕ → ℕ → Type 0
Told post lo hi = (told : ℕ) × post lo told × (hi ≡ max lo told)

pub record IsNext {F : Type 0} (post : F → ℕ → ℕ → Type 0) (s : StretchIter F) (x : Bounds) (t : StretchIter F) : Type 0 where
  pub begins : x.lo ≡ s.from
  pub ordered : x.lo ≤ x.hi
  pub inside : x.hi < 1114112
  pub told : Told (post s.last_of) x.lo x.hi
  pub goes_on : t.from ≡ x.hi + 1
  pub by_same : t.last_of ≡ s.last_of

abbrev pub GivesStretch : {F : Type 0} → (F → ℕ → ℕ → Type 0) → StretchIter F → Option Bounds → StretchIter F → Type 0
GivesStretch post s r t = MatchOption r ((s.from ≡ 1114112) × (t ≡ s)) (λ x. IsNext post s x t)

abbrev pub Follow : (ℕ → ℕ → Type 0) → ℕ → List Bounds → ℕ → Type 0
Follow post a [] b = a ≡ b
Follow post a (x ∷ xs) b = (x.lo ≡ a) × (x.lo ≤ x.hi) × Told post x.lo x.hi × Follow post (x.hi + 1) xs b

abbrev pub TellsAlike : {V : Type 0} → (ℕ → ℕ → Type 0) → (ℕ → V) → Type 0
TellsAlike post f = (lo told : ℕ) → told < 1114112 → post lo told → (lo ≤ told) × ((k : ℕ) → lo ≤ k → k ≤ told → f k ≡ f lo)

abbrev pub Gives : {V : Type 0} → (ℕ → V → Type 0) → (ℕ → V) → Type 0
Gives {V} post f = (c : ℕ) (given : V) → c < 1114112 → post c given → given ≡ f c

abbrev pub passing : (ℕ → Bool) → ℕ
passing p = count_by p (range_with_len 0 point_count)
