-- The numbers of the last groups that pass a test.
use Rattle.std.proofs.Common.{◌≡◌, ℕ, ◌+◌, ◌-◌, max, min, Bool, true, false, not, ◌||◌, List, [], ◌∷◌, ◌++◌, length, reverse, refl, sym, ap, ◌∙◌, if◌then◌else◌, arith, length-append}
use Rattle.std.specs.List.{fold, prefix_len, suffix_len}
use Rattle.std.proofs.lemmas.List.{length-reverse, reverse-append}
use Rattle.release_rows.specs.declared.operation.Op.{Op}
use Rattle.bench_editors.specs.Rows.{last_passing, last_touched, row_of, touches, touches_any}

abbrev Groups : Type 0
Groups = List (List Op)

-- ---- one more group

ends_with : (q : List Op → Bool) (groups : Groups) (ops : List Op) → suffix_len q (groups ++ ops ∷ []) ≡ (if q ops then 1 + suffix_len q groups else 0)
ends_with q groups ops = ap (prefix_len q) (reverse-append groups (ops ∷ []))

pub one_more : (p : List Op → Bool) (groups : Groups) (ops : List Op) → last_passing p (groups ++ ops ∷ []) ≡ (if p ops then length groups + 1 else last_passing p groups)
one_more p groups ops = by_test (p ops) (ends_with (λ g. not (p g)) groups ops)
  where
    by_test : (b : Bool) → suffix_len (λ g. not (p g)) (groups ++ ops ∷ []) ≡ (if not b then 1 + suffix_len (λ g. not (p g)) groups else 0)
        → length (groups ++ ops ∷ []) - suffix_len (λ g. not (p g)) (groups ++ ops ∷ []) ≡ (if b then length groups + 1 else last_passing p groups)
    by_test true is = rw (is, length-append groups (ops ∷ [])) (omega arith)
    by_test false is = rw (is, length-append groups (ops ∷ [])) (omega arith)

-- ---- several tests

pub none_before : {A : Type 0} (xs : List A) → prefix_len (λ x. true) xs ≡ length xs
none_before [] = refl
none_before (x ∷ xs) = ap (λ n. 1 + n) (none_before xs) ∙ omega arith

pub none_pass : (groups : Groups) → last_passing (λ g. false) groups ≡ 0
none_pass groups =
    let all : suffix_len (λ (g : List Op). true) groups ≡ length groups = none_before (reverse groups) ∙ length-reverse groups in
    rw all (omega arith)

both_before : (p q : List Op → Bool) (groups : Groups) → prefix_len (λ g. not (p g || q g)) groups ≡ min (prefix_len (λ g. not (p g)) groups) (prefix_len (λ g. not (q g)) groups)
both_before p q [] = omega arith
both_before p q (ops ∷ groups) = by_tests (p ops) (q ops) _ _ _ (both_before p q groups)
  where
    by_tests : (a b : Bool) (m n k : ℕ) → m ≡ min n k → (if not (a || b) then 1 + m else 0) ≡ min (if not a then 1 + n else 0) (if not b then 1 + k else 0)
    by_tests true b m n k h = omega arith
    by_tests false true m n k h = omega arith
    by_tests false false m n k h = omega arith

pub either_passes : (p q : List Op → Bool) (groups : Groups) → last_passing (λ g. p g || q g) groups ≡ max (last_passing p groups) (last_passing q groups)
either_passes p q groups = omega (arith, both_before p q (reverse groups))

-- the last group that touches any of several rows is the greatest of the last ones that touch them
greatest_from : (groups : Groups) (n : ℕ) (others : List Op) → fold (λ m op. max m (last_touched groups (row_of op))) n others ≡ max n (last_passing (touches_any others) groups)
greatest_from groups n [] = sym (rw (none_pass groups) (omega arith))
greatest_from groups n (op ∷ others) =
    greatest_from groups (max n (last_touched groups (row_of op))) others ∙ omega (arith, either_passes (touches (row_of op)) (touches_any others) groups)

pub greatest_is : (groups : Groups) (others : List Op) → fold (λ m op. max m (last_touched groups (row_of op))) 0 others ≡ last_passing (touches_any others) groups
greatest_is groups others = greatest_from groups 0 others ∙ omega arith
