-- The code points from one on that pass a test, as a list.
-- points_are_those p   the code points that pass p are all that do, no others, and rise
-- askers_are_those     so are the askers of a question, and of questions
use Rattle.std.proofs.Common.{◌≡◌, ◌∙◌, ℕ, zero, suc, ◌+◌, ◌-◌, ◌<◌, ◌≤◌, Bool, true, false, ◌&&◌, ◌==◌, List, get_or, filter, sym, ap, arith, inl, inr}
use Rattle.std.proofs.lemmas.Bool.{cases_lt, true≢false, eqb-true, and_from}
use Rattle.std.proofs.lemmas.Map.Views.{any-filter_same}
use Rattle.std.proofs.lemmas.Bool.Decides.{nat_tests}
use Rattle.std.proofs.lemmas.List.FromFn.{length-range_with_len, get_or-range_with_len}
use Rattle.std.proofs.lemmas.List.Kept.{IsStrictlyIncreasing-filter}
use Rattle.std.specs.List.{range_with_len}
use Rattle.std.specs.List.Sorted.{IsStrictlyIncreasing}
use Rattle.std.specs.Cmp.{first_so, second_so}
use Rattle.ucd_points.specs.Limits.{point_count}
use Rattle.range_table.specs.Values.{point_count-is}
use Rattle.dependency_map.specs.Askers.{points_from, asks, asks_any}
use Rattle.dependency_map.specs.Laws.{is_in, AreThose, AskersAreThose}

range_rises : (a n : ℕ) → IsStrictlyIncreasing (range_with_len a n)
range_rises a n k inside =
    let len = length-range_with_len a n in
    let one : get_or (range_with_len a n) k 0 ≡ a + k = get_or-range_with_len a n k 0 (omega (arith, len, inside)) in
    let next : get_or (range_with_len a n) (k + 1) 0 ≡ a + (k + 1) = get_or-range_with_len a n (k + 1) 0 (omega (arith, len, inside)) in
    omega (arith, one, next)

-- ---- members of a stretch of numbers

in_range : (a n c : ℕ) → a ≤ c → c < a + n → is_in (range_with_len a n) c ≡ true
in_range a zero c low high = absurd (omega arith)
in_range a (suc n) c low high = elim (cases_lt a c) [
  | inl lt ↦ let rest = in_range (a + 1) n c (omega arith) (omega arith) in grind (arith, nat_tests)
  | inr ge ↦ let at : a ≡ c = omega arith in grind (arith, nat_tests)
]

below_end : (a n c : ℕ) → is_in (range_with_len a n) c ≡ true → c < a + n
below_end a zero c h = absurd (true≢false (sym h))
below_end a (suc n) c h = let rest : is_in (range_with_len (a + 1) n) c ≡ true → c < (a + 1) + n = below_end (a + 1) n c in grind (arith, nat_tests)

-- ---- members that pass

is_in-filter : (p : ℕ → Bool) (c : ℕ) (xs : List ℕ) → is_in (filter p xs) c ≡ (p c && is_in xs c)
is_in-filter p c xs = any-filter_same (λ k. k == c) p (p c) (λ k is. ap p (eqb-true k c is)) xs

pub points_are_those : (p : ℕ → Bool) → AreThose p (points_from p 0)
points_are_those p =
    let n : ℕ = point_count - 0 in
    record {
      all = λ c inside is. is_in-filter p c (range_with_len 0 n) ∙ and_from (p c) (is_in (range_with_len 0 n) c) is (in_range 0 n c (omega arith) (omega (arith, point_count-is)));
      only = λ c is. let parts : (p c && is_in (range_with_len 0 n) c) ≡ true = sym (is_in-filter p c (range_with_len 0 n)) ∙ is in
          let below = below_end 0 n c (second_so (p c) (is_in (range_with_len 0 n) c) parts) in
          (omega (arith, below, point_count-is), first_so (p c) (is_in (range_with_len 0 n) c) parts);
      rising = IsStrictlyIncreasing-filter p (range_with_len 0 n) (range_rises 0 n);
    }

pub askers_are_those : AskersAreThose
askers_are_those = (λ asked q. points_are_those (asks asked q), λ asked Q. points_are_those (asks_any asked Q))
