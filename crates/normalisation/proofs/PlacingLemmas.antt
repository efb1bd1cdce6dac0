-- How a point is moved into its place among those before it.
use Rattle.std.proofs.Common.{◌≡◌, ℕ, zero, suc, ◌+◌, ◌≤◌, ◌<◌, Bool, true, false, cond, ◌==◌, List, [], ◌∷◌, ◌++◌, length, take, drop, get_or, set, refl, sym, ap, ◌∙◌, arith}
use Rattle.std.specs.List.{list_all}
use Rattle.std.proofs.lemmas.List.{append_assoc, length-append, length_push, length-set, length-drop, drop_more, take_at, drop_at, take_all, length-take, at_drop_more, at_drop_all}
use Rattle.std.proofs.lemmas.List.Folds.{list_all_at}
use Rattle.ucd_model.specs.CanonicalOrder.{greater, placed, with_next, order_onto}
use Rattle.normalisation.specs.OrderLemmas.{with_next_mark}

-- ---- one step to the front: what stands before the free place moves into it

pub shifted : (A B s : List ℕ) (p q y x : ℕ) → q ≡ suc p → q ≤ length A → set s q y ≡ take q A ++ y ∷ (drop q A ++ B) → x ≡ get_or s p 0 → set (set s q x) p y ≡ take p A ++ y ∷ (drop p A ++ B)
shifted [] B s p q y x next le shape read = absurd (omega arith)
shifted (a ∷ A) B [] p zero y x next le shape read = absurd (omega arith)
shifted (a ∷ A) B (b ∷ s) p zero y x next le shape read = absurd (omega arith)
shifted (a ∷ A) B [] zero (suc q) y x next le shape read = cc
shifted (a ∷ A) B (b ∷ []) zero (suc q) y x next le shape read = let q0 : q ≡ 0 = omega arith in cc
shifted (a ∷ A) B (b ∷ c ∷ s) zero (suc zero) y x next le shape read = cc
shifted (a ∷ A) B (b ∷ c ∷ s) zero (suc (suc q)) y x next le shape read = absurd (omega arith)
shifted (a ∷ A) B [] (suc p) (suc q) y x next le shape read = cc
shifted (a ∷ A) B (b ∷ s) (suc p) (suc q) y x next le shape read =
    let tail : set s q y ≡ take q A ++ y ∷ (drop q A ++ B) = cc in
    let head : b ≡ a = cc in
    let rest = shifted A B s p q y x (omega arith) (omega arith) tail read in
    cc

pub read_before : (A B s : List ℕ) (p q y : ℕ) → q ≡ suc p → q ≤ length A → set s q y ≡ take q A ++ y ∷ (drop q A ++ B) → get_or s p 0 ≡ get_or A p 0
read_before [] B s p q y next le shape = absurd (omega arith)
read_before (a ∷ A) B [] p zero y next le shape = absurd (omega arith)
read_before (a ∷ A) B (b ∷ s) p zero y next le shape = absurd (omega arith)
read_before (a ∷ A) B [] p (suc q) y next le shape = cc
read_before (a ∷ A) B (b ∷ s) zero (suc q) y next le shape = cc
read_before (a ∷ A) B (b ∷ s) (suc p) (suc q) y next le shape =
    let tail : set s q y ≡ take q A ++ y ∷ (drop q A ++ B) = cc in
    read_before A B s p q y (omega arith) (omega arith) tail

pub all_before : (test : ℕ → Bool) (A : List ℕ) (p q : ℕ) → q ≡ suc p → q ≤ length A → list_all test (drop q A) ≡ true → test (get_or A p 0) ≡ true → list_all test (drop p A) ≡ true
all_before test A p q next le above here =
    let cut : drop p A ≡ get_or A p 0 ∷ drop (p + 1) A = drop_more A p 0 (omega arith) in
    let same : p + 1 ≡ q = omega arith in
    rw (cut, same, here) above

-- ---- where it stops

pub placed_is : (class : ℕ → ℕ) (A : List ℕ) (p y : ℕ) → p ≤ length A → list_all (greater class y) (drop p A) ≡ true → ((q : ℕ) → q + 1 ≡ p → greater class y (get_or A q 0) ≡ false) → placed class y A ≡ take p A ++ y ∷ drop p A
placed_is class [] zero y le above stops = refl
placed_is class [] (suc p) y le above stops = absurd (omega arith)
placed_is class (a ∷ A) zero y le above stops = rw above refl
placed_is class (a ∷ A) (suc p) y le above stops =
    let lower : list_all (greater class y) (a ∷ A) ≡ false = list_all_at (greater class y) (a ∷ A) p 0 (omega arith) (stops p (omega arith)) in
    rw lower (ap (λ zs. a ∷ zs) (placed_is class A p y (omega arith) above (λ q e. stops (suc q) (omega arith))))

-- ---- the whole move

pub shape_length : (A B s : List ℕ) (q y : ℕ) → q ≤ length A → set s q y ≡ take q A ++ y ∷ (drop q A ++ B) → q < length s
shape_length A B s q y le shape = omega (arith, length-set s q y, ap length shape, length-append (take q A) (y ∷ (drop q A ++ B)), length-take q A)

pub put_back : (class : ℕ → ℕ) (A B s : List ℕ) (p y : ℕ) → p ≤ length A → set s p y ≡ take p A ++ y ∷ (drop p A ++ B) → list_all (greater class y) (drop p A) ≡ true → ((q : ℕ) → q + 1 ≡ p → greater class y (get_or A q 0) ≡ false) → 0 < class y → set s p y ≡ with_next class A y ++ B
put_back class A B s p y le shape above stops lt =
    shape ∙ sym (append_assoc (take p A) (y ∷ drop p A) B) ∙ ap (λ zs. zs ++ B) (sym (with_next_mark class A y lt ∙ placed_is class A p y le above stops))

length-if : (t : Bool) (xs ys : List ℕ) (n : ℕ) → length xs ≡ n → length ys ≡ n → length (cond t xs ys) ≡ n
length-if true xs ys n e f = e
length-if false xs ys n e f = f

pub length-placed : (class : ℕ → ℕ) (y : ℕ) (xs : List ℕ) → length (placed class y xs) ≡ length xs + 1
length-placed class y [] = refl
length-placed class y (x ∷ xs) = length-if (list_all (greater class y) (x ∷ xs)) (y ∷ x ∷ xs) (x ∷ placed class y xs) (suc (length xs) + 1) (omega arith) (omega (arith, length-placed class y xs))

pub length-with_next : (class : ℕ → ℕ) (xs : List ℕ) (y : ℕ) → length (with_next class xs y) ≡ length xs + 1
length-with_next class xs y = length-if (class y == 0) (xs ++ y ∷ []) (placed class y xs) (length xs + 1) (length_push xs y) (length-placed class y xs)

-- ---- the pass: one point more is in order

pub order_more : (class : ℕ → ℕ) (s s' : List ℕ) (at : ℕ) → at < length s → s' ≡ with_next class (take at s) (get_or s at 0) ++ drop (at + 1) s → order_onto class (take (at + 1) s') (drop (at + 1) s') ≡ order_onto class (take at s) (drop at s)
order_more class s s' at lt is =
    let front : List ℕ = with_next class (take at s) (get_or s at 0) in
    let len : length front ≡ at + 1 = omega (arith, length-with_next class (take at s) (get_or s at 0), length-take at s) in
    rw (is, take_at front (drop (at + 1) s) (at + 1) len, drop_at front (drop (at + 1) s) (at + 1) len) (sym (at_drop_more (order_onto class (take at s)) s at 0 lt))

pub order_same_length : (class : ℕ → ℕ) (s s' : List ℕ) (at : ℕ) → at < length s → s' ≡ with_next class (take at s) (get_or s at 0) ++ drop (at + 1) s → length s' ≡ length s
order_same_length class s s' at lt is =
    let front : List ℕ = with_next class (take at s) (get_or s at 0) in
    omega (arith, ap length is, length-append front (drop (at + 1) s), length-with_next class (take at s) (get_or s at 0), length-take at s, length-drop (at + 1) s)

pub order_end : (class : ℕ → ℕ) (s : List ℕ) (at : ℕ) → length s ≤ at → order_onto class (take at s) (drop at s) ≡ s
order_end class s at le = at_drop_all (order_onto class (take at s)) s at le ∙ take_all at s le
