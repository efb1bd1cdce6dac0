-- The first of the numbers in a range for which something holds, and those behind it.
use Rattle.std.proofs.Common.{◌≡◌, ◌≤◌, ◌<◌, ◌+◌, ◌-◌, ℕ, zero, suc, Bool, true, false, List, [], ◌∷◌, filter, refl, sym, ap, ◌∙◌, arith, inl, inr}
use Rattle.std.specs.List.{range_with_len}
use Rattle.std.proofs.lemmas.Bool.{cases_lt}

-- of the m numbers from lo on, c is the first for which p holds, and the others are left
pub record IsFirst (p : ℕ → Bool) (lo m c : ℕ) (rest : List ℕ) : Type 0 where
  pub from : lo ≤ c
  pub to : c < lo + m
  pub none : (k : ℕ) → lo ≤ k → k < c → p k ≡ false
  pub here : p c ≡ true
  pub left : rest ≡ filter p (range_with_len (c + 1) (lo + m - (c + 1)))

pub first_in : (p : ℕ → Bool) (lo m c : ℕ) (rest : List ℕ) → filter p (range_with_len lo m) ≡ c ∷ rest → IsFirst p lo m c rest
first_in p lo zero c rest e = absurd cc
first_in p lo (suc m) c rest e = go (p lo) refl (first_in p (lo + 1) m c rest)
  where
    go : (b : Bool) → p lo ≡ b → (filter p (range_with_len (lo + 1) m) ≡ c ∷ rest → IsFirst p (lo + 1) m c rest) → IsFirst p lo (suc m) c rest
    go true is behind_it =
        let found : lo ∷ filter p (range_with_len (lo + 1) m) ≡ c ∷ rest = rw is at e in
        let same : lo ≡ c = cc in
        let behind : rest ≡ filter p (range_with_len (lo + 1) m) = cc in
        let long : m ≡ lo + suc m - (c + 1) = omega arith in
        record {
          from = omega arith;
          to = omega arith;
          none = λ k low high. absurd (omega arith);
          here = ap p (sym same) ∙ is;
          left = behind ∙ ap (λ (n : ℕ). filter p (range_with_len (n + 1) m)) same ∙ ap (λ (n : ℕ). filter p (range_with_len (c + 1) n)) long;
        }
    go false is behind_it =
        let later : IsFirst p (lo + 1) m c rest = behind_it (rw is at e) in
        let from : lo + 1 ≤ c = later.from in
        let to : c < (lo + 1) + m = later.to in
        let long : (lo + 1) + m - (c + 1) ≡ lo + suc m - (c + 1) = omega arith in
        record {
          from = omega arith;
          to = omega arith;
          none = λ k low high. elim (cases_lt k (lo + 1)) [
            | inl lt ↦ let here : k ≡ lo = omega arith in ap p here ∙ is
            | inr ge ↦ later.none k ge high
          ];
          here = later.here;
          left = later.left ∙ ap (λ (n : ℕ). filter p (range_with_len (c + 1) n)) long;
        }

pub none_in : (p : ℕ → Bool) (lo m : ℕ) → filter p (range_with_len lo m) ≡ [] → (k : ℕ) → lo ≤ k → k < lo + m → p k ≡ false
none_in p lo zero e k low high = absurd (omega arith)
none_in p lo (suc m) e k low high = go (p lo) refl (λ none from. none_in p (lo + 1) m none k from (omega arith))
  where
    go : (b : Bool) → p lo ≡ b → (filter p (range_with_len (lo + 1) m) ≡ [] → lo + 1 ≤ k → p k ≡ false) → p k ≡ false
    go true is behind_it = let found : lo ∷ filter p (range_with_len (lo + 1) m) ≡ [] = rw is at e in absurd cc
    go false is behind_it = elim (cases_lt k (lo + 1)) [
      | inl lt ↦ let here : k ≡ lo = omega arith in ap p here ∙ is
      | inr ge ↦ behind_it (rw is at e) ge
    ]

-- tests that agree on the numbers of a range keep the same ones
