-- How much is left of a walk, and how it falls.
-- missing_less   one number less does not pass, where one more passes
-- left_less      so less is left, however many are pending
use Rattle.std.proofs.Common.{◌≡◌, ℕ, zero, suc, ◌+◌, ◌^◌, ◌<◌, ◌≤◌, Bool, true, false, cond, ◌||◌, ◌==◌, List, length, refl, sym, ap, ◌∙◌, arith, inl, inr}
use Rattle.std.proofs.lemmas.Bool.{true≢false, cases_lt, or_left, or_right, eq-eqb}
use Rattle.mention_index.specs.Walks.{left, missing}

one_le : (a b : Bool) → (a ≡ true → b ≡ true) → cond b 0 1 ≤ cond a 0 1
one_le true true f = omega arith
one_le true false f = absurd (true≢false (sym (f refl)))
one_le false true f = omega arith
one_le false false f = omega arith

missing_more : (p q : ℕ → Bool) (n : ℕ) → ((k : ℕ) → p k ≡ true → q k ≡ true) → missing q n ≤ missing p n
unfolding missing
missing_more p q zero f = omega arith
missing_more p q (suc n) f = omega (arith, one_le (p n) (q n) (f n), missing_more p q n f)

module _ (p q : ℕ → Bool) (x : ℕ) (same : (k : ℕ) → q k ≡ (p k || k == x)) (none : p x ≡ false) where
  grows : (k : ℕ) → p k ≡ true → q k ≡ true
  grows k e = same k ∙ or_left (p k) (k == x) e

  missing_less : (n : ℕ) → x < n → missing q n + 1 ≤ missing p n
  unfolding missing
  missing_less zero lt = absurd (omega arith)
  missing_less (suc n) lt =
      elim (cases_lt x n) [
        | inl less ↦ omega (arith, one_le (p n) (q n) (grows n), missing_less n less)
        | inr ge ↦
            let is : x ≡ n = omega arith in
            let now : q n ≡ true = same n ∙ or_right (p n) (n == x) (eq-eqb n x (sym is)) in
            let before : p n ≡ false = ap p (sym is) ∙ none in
            let one : ◌≡◌ {A = ℕ} (cond (p n) 0 1) 1 = ap (λ b. cond b 0 1) before in
            let none_now : ◌≡◌ {A = ℕ} (cond (q n) 0 1) 0 = ap (λ b. cond b 0 1) now in
            omega (arith, one, none_now, missing_more p q n grows)
      ]

  pub left_less : (old new : List ℕ) → x < 1114112 → length new < 2 ^ 64 → left q new ≤ left p old
  left_less old new lt small = omega (arith, missing_less 1114112 lt, small)
