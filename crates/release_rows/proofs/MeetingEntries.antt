-- Entries within bounds that no span meets.
use Rattle.std.proofs.Common.{◌≡◌, ℕ, ◌≤◌, Bool, true, false, ◌||◌, List, [], ◌∷◌, refl, arith}
use Rattle.std.specs.List.{list_any}
use Rattle.std.proofs.lemmas.Bool.Decides.{nat_tests}
use Rattle.ucd_points.specs.Bounds.{Bounds}
use Rattle.release_rows.specs.Keys.{spans_meet}

misses_one : (lo hi least most : ℕ) (span : Bounds) → least ≤ lo → hi ≤ most → spans_meet (record { lo = least; hi = most }) span ≡ false → spans_meet (record { lo = lo; hi = hi }) span ≡ false
misses_one lo hi least most span from to is = grind (arith, nat_tests)

-- what no span meets meets none where it is narrower
pub misses_all : (lo hi least most : ℕ) (spans : List Bounds) → least ≤ lo → hi ≤ most → list_any (spans_meet (record { lo = least; hi = most })) spans ≡ false → list_any (spans_meet (record { lo = lo; hi = hi })) spans ≡ false
misses_all lo hi least most [] from to is = refl
misses_all lo hi least most (span ∷ spans) from to is =
    both (spans_meet (record { lo = least; hi = most }) span) (list_any (spans_meet (record { lo = least; hi = most })) spans)
    (misses_one lo hi least most span from to) (misses_all lo hi least most spans from to) is
  where
    both : (a b : Bool) {x y : Bool} → (a ≡ false → x ≡ false) → (b ≡ false → y ≡ false) → (a || b) ≡ false → (x || y) ≡ false
    both true b first rest h = absurd cc
    both false true first rest h = absurd cc
    both false false first rest h = rw (first refl, rest refl) refl
