-- Which change and which run a code point lies in.
use Rattle.std.proofs.Common.{◌≡◌, ℕ, zero, suc, ◌-◌, ◌<◌, ◌≤◌, Bool, List, [], ◌∷◌, length, get_or, refl, sym, ap, ◌∙◌, arith}
use Rattle.std.proofs.lemmas.Bool.Decides.{nat_tests}
use Rattle.std.proofs.lemmas.List.{get_or_default}
use Rattle.std.specs.List.Sorted.{IsNonDecreasingBy}
use Rattle.range_table.specs.declared.change.Change.{Change}
use Rattle.range_table.specs.Layout.{Follow, value_at, count_before, value_of_run}

pub count_before-le : {A : Type 0} (s : ℕ) (xs : List (Change A)) → count_before s xs ≤ length xs
count_before-le s [] = omega arith
count_before-le s (x ∷ xs) = let before = count_before-le s xs in grind (arith, nat_tests)

pub count_before-mono : {A : Type 0} (s t : ℕ) (xs : List (Change A)) → s ≤ t → count_before s xs ≤ count_before t xs
count_before-mono s t [] h = omega arith
count_before-mono s t (x ∷ xs) h = let before = count_before-mono s t xs h in grind (arith, nat_tests)

value_of_run-step : {A : Type 0} (d : A) (x : Change A) (xs : List (Change A)) (c : ℕ) → value_of_run x.value xs (count_before (suc c) xs) ≡ value_at x.value xs c → value_of_run d (x ∷ xs) (count_before (suc c) (x ∷ xs)) ≡ value_at d (x ∷ xs) c
value_of_run-step d x xs c rest = grind (arith, nat_tests)

-- the run that a point lies in is that of the changes up to it
pub value_of_run-count_before : {A : Type 0} (d : A) (xs : List (Change A)) (c : ℕ) → value_of_run d xs (count_before (suc c) xs) ≡ value_at d xs c
value_of_run-count_before d [] c = refl
value_of_run-count_before d (x ∷ xs) c = value_of_run-step d x xs c (value_of_run-count_before x.value xs c)

pub value_of_run-first : {A : Type 0} (d : A) (xs : List (Change A)) → value_of_run d xs 0 ≡ d
value_of_run-first d [] = refl
value_of_run-first d (x ∷ xs) = refl

pub value_of_run-suc : {A : Type 0} (d : A) (xs : List (Change A)) (i : ℕ) (r : Change A) → i < length xs → r ≡ get_or xs i r → value_of_run d xs (suc i) ≡ r.value
value_of_run-suc d [] i r h is = absurd (omega arith)
value_of_run-suc {A} d (x ∷ xs) zero r h is = value_of_run-first x.value xs ∙ ap (λ (y : Change A). y.value) (sym is)
value_of_run-suc d (x ∷ xs) (suc i) r h is = value_of_run-suc x.value xs i r (omega arith) is

-- all changes come after the point where the run before them begins
pub starts_above : {A : Type 0} (eq : A → A → Bool) (low : ℕ) (d : A) (xs : List (Change A)) → Follow eq low d xs → (k : ℕ) (e : Change A) → k < length xs → low < (get_or xs k e).start
starts_above eq low d [] f k e h = absurd (omega arith)
starts_above eq low d (x ∷ xs) f zero e h = f.0.ascends
starts_above eq low d (x ∷ xs) f (suc k) e h =
    let above = starts_above eq x.start x.value xs f.1 k e (omega arith) in
    let here = f.0.ascends in
    omega arith

pub starts_ascend : {A : Type 0} (eq : A → A → Bool) (low : ℕ) (d : A) (xs : List (Change A)) → Follow eq low d xs → IsNonDecreasingBy (λ (x : Change A). x.start) xs
starts_ascend eq low d [] f i j e le h = absurd (omega arith)
starts_ascend eq low d (x ∷ xs) f zero zero e le h = omega arith
starts_ascend eq low d (x ∷ xs) f zero (suc j) e le h =
    let above = starts_above eq x.start x.value xs f.1 j e (omega arith) in
    omega arith
starts_ascend eq low d (x ∷ xs) f (suc i) zero e le h = absurd (omega arith)
starts_ascend eq low d (x ∷ xs) f (suc i) (suc j) e le h =
    starts_ascend eq x.start x.value xs f.1 i j e (omega arith) (omega arith)

-- an index with only earlier changes below it, and no earlier one from it on
pub count_before-unique : {A : Type 0} (s : ℕ) (xs : List (Change A)) (i : ℕ) → i ≤ length xs → ((k : ℕ) (e : Change A) → k < i → (get_or xs k e).start < s) → ((k : ℕ) (e : Change A) → i ≤ k → k < length xs → s ≤ (get_or xs k e).start) → i ≡ count_before s xs
count_before-unique s [] i h below above = omega arith
count_before-unique s (x ∷ xs) zero h below above =
    let here : s ≤ x.start = above 0 x (omega arith) (omega arith) in
    grind (arith, nat_tests)
count_before-unique s (x ∷ xs) (suc i) h below above =
    let here : x.start < s = below 0 x (omega arith) in
    let rest = count_before-unique s xs i (omega arith) (λ k e lt. below (suc k) e (omega arith)) (λ k e le lt. above (suc k) e (omega arith) (omega arith)) in
    grind (arith, nat_tests)

-- the index after the first i changes, where the last of them is before s, and the one at i is not
pub count_before-between : {A : Type 0} (s : ℕ) (xs : List (Change A)) (i : ℕ) (d e : Change A) → IsNonDecreasingBy (λ (x : Change A). x.start) xs → i ≤ length xs → (0 < i → (get_or xs (i - 1) d).start < s) → (i < length xs → s ≤ (get_or xs i e).start) → i ≡ count_before s xs
count_before-between {A} s xs i d e ascends h below above =
    count_before-unique s xs i h
    (λ k x lt.
    let order = ascends k (i - 1) d (omega arith) (omega arith) in
    let last = below (omega arith) in
    let same = ap (λ (y : Change A). y.start) (get_or_default xs k d x (omega arith)) in
    omega arith)
    (λ k x le lt.
    let order = ascends i k e le lt in
    let first = above (omega arith) in
    let same = ap (λ (y : Change A). y.start) (get_or_default xs k e x lt) in
    omega arith)
