-- How far the run of a code point reaches.
use Rattle.std.proofs.Common.{◌≡◌, ℕ, zero, suc, ◌<◌, ◌≤◌, Bool, List, [], ◌∷◌, length, get_or, refl, sym, ap, ◌∙◌, arith, inl, inr}
use Rattle.std.proofs.lemmas.Bool.Decides.{nat_tests}
use Rattle.std.proofs.lemmas.Bool.{cases_lt}
use Rattle.range_table.specs.declared.change.Change.{Change}
use Rattle.range_table.specs.Layout.{Follow, value_at, count_before, IsEnd}

-- one past the last code point of run i
abbrev pub end_of_run : {A : Type 0} → List (Change A) → ℕ → ℕ
end_of_run [] i = 1114112
end_of_run (x ∷ xs) zero = x.start
end_of_run (x ∷ xs) (suc i) = end_of_run xs i

pub end_of_run-all : {A : Type 0} (xs : List (Change A)) → end_of_run xs (length xs) ≡ 1114112
end_of_run-all [] = refl
end_of_run-all (x ∷ xs) = end_of_run-all xs

pub end_of_run-start : {A : Type 0} (xs : List (Change A)) (i : ℕ) (r : Change A) → i < length xs → r ≡ get_or xs i r → end_of_run xs i ≡ r.start
end_of_run-start [] i r h is = absurd (omega arith)
end_of_run-start {A} (x ∷ xs) zero r h is = ap (λ (y : Change A). y.start) (sym is)
end_of_run-start (x ∷ xs) (suc i) r h is = end_of_run-start xs i r (omega arith) is

value_at-before : {A : Type 0} (d : A) (x : Change A) (xs : List (Change A)) (c : ℕ) → c < x.start → value_at d (x ∷ xs) c ≡ d
value_at-before d x xs c h = grind (arith, nat_tests)

value_at-from : {A : Type 0} (d : A) (x : Change A) (xs : List (Change A)) (c : ℕ) → x.start ≤ c → value_at d (x ∷ xs) c ≡ value_at x.value xs c
value_at-from d x xs c h = grind (arith, nat_tests)

value_at-low : {A : Type 0} (eq : A → A → Bool) (low : ℕ) (d : A) (xs : List (Change A)) → Follow eq low d xs → value_at d xs low ≡ d
value_at-low eq low d [] f = refl
value_at-low eq low d (x ∷ xs) f = value_at-before d x xs low f.0.ascends

end-before : {A : Type 0} (x : Change A) (xs : List (Change A)) (c : ℕ) → c < x.start → end_of_run (x ∷ xs) (count_before (suc c) (x ∷ xs)) ≡ x.start
end-before x xs c h = let none : count_before (suc c) (x ∷ xs) ≡ 0 = grind (arith, nat_tests) in rw none refl

end-from : {A : Type 0} (x : Change A) (xs : List (Change A)) (c : ℕ) → x.start ≤ c → end_of_run (x ∷ xs) (count_before (suc c) (x ∷ xs)) ≡ end_of_run xs (count_before (suc c) xs)
end-from x xs c h = let one : count_before (suc c) (x ∷ xs) ≡ suc (count_before (suc c) xs) = grind (arith, nat_tests) in rw one refl

pub ends_at : {A : Type 0} (eq : A → A → Bool) (low : ℕ) (d : A) (xs : List (Change A)) (c : ℕ) → Follow eq low d xs → c < 1114112 → IsEnd eq (value_at d xs) c (end_of_run xs (count_before (suc c) xs))
ends_at eq low d [] c f h = record { above = h; is_point = omega arith; same = λ k from below. refl; differs = λ below. absurd (omega arith) }
ends_at eq low d (x ∷ xs) c f h =
    elim (cases_lt c x.start) [
      | inl before ↦ rw (end-before x xs c before)
          (record {
            above = before;
            is_point = let point = f.0.is_point in omega arith;
            same = λ k from below. value_at-before d x xs k below ∙ sym (value_at-before d x xs c before);
            differs = λ below. rw (value_at-before d x xs c before, value_at-from d x xs x.start (omega arith), value_at-low eq x.start x.value xs f.1) f.0.differs;
          })
      | inr from ↦
          let rest = ends_at eq x.start x.value xs c f.1 h in
          rw (end-from x xs c from)
          (record {
            above = rest.above;
            is_point = rest.is_point;
            same = λ k le below. value_at-from d x xs k (omega arith) ∙ rest.same k le below ∙ sym (value_at-from d x xs c from);
            differs = λ below. let past = rest.above in rw (value_at-from d x xs c from, value_at-from d x xs (end_of_run xs (count_before (suc c) xs)) (omega arith)) (rest.differs below);
          })
    ]
