-- The code points that pass a test, from one of them to the next.
-- points_none p from        where none passes, there are none
-- points_next p from c      where c passes and none before it does, c is the first of them
-- points_same p r           tests that answer each code point alike have the same ones
use Rattle.std.proofs.Common.{◌≡◌, ◌∙◌, ℕ, zero, suc, ◌+◌, ◌-◌, ◌<◌, ◌≤◌, Bool, true, false, cond, [], ◌∷◌, filter, sym, ap, arith}
use Rattle.std.specs.List.{range_with_len}
use Rattle.ucd_points.specs.PlainProofs.{filter_alike as same}
use Rattle.ucd_points.specs.Limits.{point_count}
use Rattle.range_table.specs.Values.{point_count-is}
use Rattle.dependency_map.specs.Askers.{points_from}
use Rattle.dependency_map.specs.Index.{NoneFrom}

-- ---- over a stretch of numbers of any length

-- numbers that do not pass are left out
skipped : (p : ℕ → Bool) (a j n : ℕ) → NoneFrom p a (a + j) → filter p (range_with_len a (j + n)) ≡ filter p (range_with_len (a + j) n)
skipped p a zero n none =
    let start : a + 0 ≡ a = omega arith in
    let len : 0 + n ≡ n = omega arith in
    ap (λ m. filter p (range_with_len a m)) len ∙ ap (λ b. filter p (range_with_len b n)) (sym start)
skipped p a (suc j) n none =
    let here : p a ≡ false = none a (omega arith) (omega arith) in
    let len : suc j + n ≡ suc (j + n) = omega arith in
    let start : (a + 1) + j ≡ a + suc j = omega arith in
    ap (λ m. filter p (range_with_len a m)) len
    ∙ ap (λ b. cond b (a ∷ filter p (range_with_len (a + 1) (j + n))) (filter p (range_with_len (a + 1) (j + n)))) here
    ∙ skipped p (a + 1) j n (λ k low high. none k (omega arith) (omega arith))
    ∙ ap (λ b. filter p (range_with_len b n)) start

first : (p : ℕ → Bool) (c n : ℕ) → p c ≡ true → filter p (range_with_len c (suc n)) ≡ c ∷ filter p (range_with_len (c + 1) n)
first p c n here = ap (λ b. cond b (c ∷ filter p (range_with_len (c + 1) n)) (filter p (range_with_len (c + 1) n))) here

-- ---- over all code points

pub points_none : (p : ℕ → Bool) (from : ℕ) → NoneFrom p from 1114112 → points_from p from ≡ []
points_none p from none =
    let len : point_count - from ≡ (point_count - from) + 0 = omega arith in
    ap (λ m. filter p (range_with_len from m)) len
    ∙ skipped p from (point_count - from) 0 (λ k low high. none k low (omega (arith, point_count-is)))

pub points_next : (p : ℕ → Bool) (from c : ℕ) → c < 1114112 → from ≤ c → p c ≡ true → NoneFrom p from c → points_from p from ≡ c ∷ points_from p (c + 1)
points_next p from c inside low here none =
    let len : point_count - from ≡ (c - from) + suc (point_count - (c + 1)) = omega (arith, point_count-is) in
    let at : from + (c - from) ≡ c = omega arith in
    ap (λ m. filter p (range_with_len from m)) len
    ∙ skipped p from (c - from) (suc (point_count - (c + 1))) (λ k above below. none k above (omega arith))
    ∙ ap (λ b. filter p (range_with_len b (suc (point_count - (c + 1))))) at
    ∙ first p c (point_count - (c + 1)) here

pub points_same : (p r : ℕ → Bool) → ((k : ℕ) → k < 1114112 → p k ≡ r k) → points_from p 0 ≡ points_from r 0
points_same p r h = same p r 0 (point_count - 0) (λ k low high. h k (omega (arith, point_count-is)))
