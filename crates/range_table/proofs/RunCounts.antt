-- How many runs there are.
use Rattle.std.proofs.Common.{◌≡◌, ℕ, zero, suc, ◌+◌, ◌≤◌, Bool, true, false, not, List, [], ◌∷◌, length, count_by, refl, sym, ap, ◌∙◌, cond, ltb, arith, map-id}
use Rattle.std.specs.List.{range_with_len}
use Rattle.std.proofs.lemmas.Bool.Decides.{nat_tests}
use Rattle.std.proofs.lemmas.List.FromFn.{sum_by-map-range_with_len_more}
use Rattle.range_table.specs.declared.change.Change.{Change}
use Rattle.range_table.specs.Values.{begins_run, run_count}
use Rattle.range_table.specs.Layout.{Follow, value_at, count_before}
use Rattle.range_table.proofs.Splices.{value_at-low, count_before-all}

count_before-none : {A : Type 0} (eq : A → A → Bool) (low : ℕ) (d : A) (xs : List (Change A)) (s : ℕ) → Follow eq low d xs → s ≤ suc low → count_before s xs ≡ 0
count_before-none eq low d [] s f h = refl
count_before-none eq low d (x ∷ xs) s f h = let here = f.0.ascends in grind (arith, nat_tests)

count_before-later : {A : Type 0} (eq : A → A → Bool) (low : ℕ) (d : A) (x : Change A) (xs : List (Change A)) (n : ℕ) → ((a : A) → eq a a ≡ true) → Follow eq low d (x ∷ xs) → suc n ≤ x.start → (t : Bool) → ltb x.start (suc (suc n)) ≡ t → count_before (suc (suc n)) (x ∷ xs) ≡ cond (not (eq d (value_at d (x ∷ xs) (suc n)))) 1 0
count_before-later eq low d x xs n self f h true e =
    let here : ltb (suc n) x.start ≡ false = grind (arith, nat_tests) in
    let le : suc n ≤ x.start = omega arith in
    let most : suc (suc n) ≤ suc x.start = omega arith in
    rw (e, here, value_at-low eq x.start x.value xs (suc n) f.1 le, f.0.differs, count_before-none eq x.start x.value xs (suc (suc n)) f.1 most) refl
count_before-later eq low d x xs n self f h false e =
    let here : ltb (suc n) x.start ≡ true = grind (arith, nat_tests) in
    rw (e, here, self d) refl

count_before-by_test : {A : Type 0} (eq : A → A → Bool) (low : ℕ) (d : A) (x : Change A) (xs : List (Change A)) (n : ℕ) → ((a : A) → eq a a ≡ true) → Follow eq low d (x ∷ xs) → (t : Bool) → ltb x.start (suc n) ≡ t → (x.start ≤ n → count_before (suc (suc n)) xs ≡ count_before (suc n) xs + cond (not (eq (value_at x.value xs n) (value_at x.value xs (suc n)))) 1 0) → count_before (suc (suc n)) (x ∷ xs) ≡ count_before (suc n) (x ∷ xs) + cond (not (eq (value_at d (x ∷ xs) n) (value_at d (x ∷ xs) (suc n)))) 1 0
count_before-by_test eq low d x xs n self f true e rest =
    let le : x.start ≤ n = grind (arith, nat_tests) in
    let later : ltb x.start (suc (suc n)) ≡ true = grind (arith, nat_tests) in
    let at : ltb n x.start ≡ false = grind (arith, nat_tests) in
    let next : ltb (suc n) x.start ≡ false = grind (arith, nat_tests) in
    rw (e, later, at, next) (omega (arith, rest le))
count_before-by_test eq low d x xs n self f false e rest =
    let lt : suc n ≤ x.start = grind (arith, nat_tests) in
    let at : ltb n x.start ≡ true = grind (arith, nat_tests) in
    rw (e, at) (omega (arith, count_before-later eq low d x xs n self f lt (ltb x.start (suc (suc n))) refl))

-- a change stands exactly where the value differs from the one before
count_before-suc : {A : Type 0} (eq : A → A → Bool) (low : ℕ) (d : A) (xs : List (Change A)) (n : ℕ) → ((a : A) → eq a a ≡ true) → Follow eq low d xs → count_before (suc (suc n)) xs ≡ count_before (suc n) xs + cond (not (eq (value_at d xs n) (value_at d xs (suc n)))) 1 0
count_before-suc eq low d [] n self f = rw (self d) refl
count_before-suc eq low d (x ∷ xs) n self f =
    count_before-by_test eq low d x xs n self f (ltb x.start (suc n)) refl (λ le. count_before-suc eq x.start x.value xs n self f.1)

-- of one point more there is one run more, if it begins one
run_count-more : {A : Type 0} (eq : A → A → Bool) (f : ℕ → A) (n : ℕ) → run_count eq f (n + 1) ≡ run_count eq f n + cond (begins_run eq f n) 1 0
run_count-more eq f n =
    let begins : ℕ → Bool = begins_run eq f in
    ap (count_by begins) (sym (map-id (range_with_len 0 (n + 1)))) ∙ sum_by-map-range_with_len_more (λ k. cond (begins k) 1 0) (λ k. k) 0 n n (omega arith)
    ∙ ap (λ (xs : List ℕ). count_by begins xs + cond (begins n) 1 0) (map-id (range_with_len 0 n))

run_count-count_before : {A : Type 0} (eq : A → A → Bool) (d : A) (xs : List (Change A)) (n : ℕ) → ((a : A) → eq a a ≡ true) → Follow eq 0 d xs → run_count eq (value_at d xs) (suc n) ≡ count_before (suc n) xs + 1
run_count-count_before eq d xs zero self f = rw (count_before-none eq 0 d xs 1 f (omega arith)) refl
run_count-count_before eq d xs (suc n) self f =
    let before = run_count-count_before eq d xs n self f in
    let here = count_before-suc eq 0 d xs n self f in
    let next : suc n + 1 ≡ suc (suc n) = omega arith in
    let more = rw next at (run_count-more eq (value_at d xs) (suc n)) in
    omega arith

-- the runs are the first one and one for each change
pub run_count-layout : {A : Type 0} (eq : A → A → Bool) (d : A) (xs : List (Change A)) (n : ℕ) → ((a : A) → eq a a ≡ true) → Follow eq 0 d xs → 1114112 ≤ n → length xs + 1 ≡ run_count eq (value_at d xs) n
run_count-layout eq d xs zero self f h = absurd (omega arith)
run_count-layout eq d xs (suc n) self f h =
    let runs = run_count-count_before eq d xs n self f in
    let all = count_before-all eq 0 d (suc n) xs f h in
    omega arith
