-- What is kept of the numbers below n.
-- in_kept         of the numbers below n, those that a test passes are kept
use Rattle.std.proofs.Common.{◌≡◌, ℕ, ◌<◌, Bool, true, ◌&&◌, ◌==◌, filter, sym, ap, subst, ◌∙◌, arith}
use Rattle.std.specs.List.{range_with_len}
use Rattle.std.proofs.lemmas.Bool.Decides.{nat_tests}
use Rattle.std.proofs.lemmas.List.Folds.{list_any_at}
use Rattle.std.proofs.lemmas.List.FromFn.{get_or-range_with_len, length-range_with_len}
use Rattle.std.proofs.lemmas.Map.Views.{any-filter_same}
use Rattle.std.proofs.Math.Bool.{and-true}
use Rattle.ucd_model.specs.Sameness.{is_in}

-- each number below n is in the list of them
in_range : (n c : ℕ) → c < n → is_in (range_with_len 0 n) c ≡ true
in_range n c lt =
    list_any_at (λ x. x == c) (range_with_len 0 n) c c (subst (λ m. c < m) (sym (length-range_with_len 0 n)) lt)
    (let at = get_or-range_with_len 0 n c c lt in grind (arith, nat_tests))

found_same : (p : ℕ → Bool) (c k : ℕ) → (k == c) ≡ true → p k ≡ p c
found_same p c k h = let same : k ≡ c = grind (arith, nat_tests) in ap p same

pub in_kept : (p : ℕ → Bool) (n c : ℕ) → c < n → is_in (filter p (range_with_len 0 n)) c ≡ p c
in_kept p n c lt =
    any-filter_same (λ x. x == c) p (p c) (λ k h. found_same p c k h) (range_with_len 0 n) ∙ ap (λ b. p c && b) (in_range n c lt) ∙ and-true (p c)
