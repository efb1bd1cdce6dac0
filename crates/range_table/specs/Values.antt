-- The values of all code points, as functions of the code point.
-- point_count-is        there are 1114112 code points
-- SameValues f g        f and g agree at each code point (above the last they may differ)
-- with_span f lo hi v   v from lo to hi, both of them in it, and f elsewhere
-- begins_run eq f c     the value at c differs by eq from the value before it (at 0: always)
-- run_count eq f n      how many maximal runs of equal values the points below n have: how many of them begin one
use Rattle.std.specs.Prelude.{◌≡◌, refl, ℕ, zero, suc, ◌<◌, Bool, true, not, ◌&&◌, nat_le, if◌then◌else◌, count_by}
use Rattle.std.specs.List.{range_with_len}
use Rattle.ucd_points.specs.Limits.{point_count}

pub point_count-is : point_count ≡ 1114112
unfolding point_count
point_count-is = refl

abbrev pub SameValues : {V : Type 0} → (ℕ → V) → (ℕ → V) → Type 0
SameValues f g = (c : ℕ) → c < 1114112 → f c ≡ g c

abbrev pub with_span : {V : Type 0} → (ℕ → V) → ℕ → ℕ → V → ℕ → V
with_span f lo hi v c = if nat_le lo c && nat_le c hi then v else f c

abbrev pub begins_run : {V : Type 0} → (V → V → Bool) → (ℕ → V) → ℕ → Bool
begins_run eq f zero = true
begins_run eq f (suc c) = not (eq (f c) (f (suc c)))

abbrev pub run_count : {V : Type 0} → (V → V → Bool) → (ℕ → V) → ℕ → ℕ
run_count eq f n = count_by (begins_run eq f) (range_with_len 0 n)
