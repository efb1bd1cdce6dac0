-- Lemmas on tests, orders and lists of numbers that several crates cite.
-- either         if a test gives the same both ways, it gives that
-- none_of        a conjunction with `false` in it is false
-- and_self       b, b again, and true together are b
-- equal_is       an order that passes the test of equality is `Equal`
-- lt_is          one that passes the test of less is `Less`
-- on_ok_holds    what a call says of Ok holds if it answers no error
-- on_err_from    what holds anyway holds if a call answers an error
-- any_map        whether a member of a mapped list passes
-- map_insert     a mapped list into which one was inserted
-- range_more     one number more
-- filter_more    those that pass, of one number more
-- filter_none    if none of the next j numbers passes, they stay
-- filter_alike   tests that agree on the numbers of a range keep the same ones
-- count_more     how many pass, of one number more
-- count_alike    if the next j numbers pass all or none
use Rattle.std.proofs.Common.{◌≡◌, ℕ, zero, suc, ◌+◌, ◌<◌, ◌≤◌, Bool, true, false, cond, ◌&&◌, if◌then◌else◌, List, [], ◌∷◌, ◌++◌, map, filter, count_by, insert, take, drop, Result, Ok, Err, OnOk, OnErr, is_err, refl, sym, ap, ◌∙◌, arith, Ordering, Less, Equal, is_eq, is_lt, append-nil, map-id}
use Rattle.std.specs.List.{list_any, range_with_len}
use Rattle.std.proofs.lemmas.Bool.{true≢false}
use Rattle.std.proofs.lemmas.List.{drop-map, map-append, take-map}
use Rattle.std.proofs.lemmas.List.FromFn.{filter_of_map_range_with_len_more, map-range_with_len_more, sum_by-map-range_with_len_more}

-- ---- tests and orders

pub either : {A : Type 0} (b : Bool) (x : A) → (if b then x else x) ≡ x
either true x = refl
either false x = refl

pub none_of : (a b c : Bool) → (a && (b && (false && c))) ≡ false
none_of true true c = refl
none_of true false c = refl
none_of false b c = refl

pub and_self : (b : Bool) → (b && (b && true)) ≡ b
and_self true = refl
and_self false = refl

pub equal_is : (o : Ordering) → is_eq o ≡ true → o ≡ Equal
equal_is Equal h = refl
equal_is _ h = absurd cc

pub lt_is : (o : Ordering) → is_lt o ≡ true → o ≡ Less
lt_is Less h = refl
lt_is _ h = absurd cc

-- ---- answers

pub on_ok_holds : {T E : Type 0} (r : Result T E) (P : Type 0) → is_err r ≡ false → OnOk r P → P
on_ok_holds (Ok x) P fine h = h
on_ok_holds (Err e) P fine h = absurd (true≢false fine)

pub on_err_from : {T E P : Type 0} (r : Result T E) → P → OnErr r P
on_err_from (Ok x) h = tt
on_err_from (Err e) h = h

-- ---- lists

pub any_map : {A B : Type 0} (p : B → Bool) (f : A → B) (xs : List A) → list_any p (map f xs) ≡ list_any (λ x. p (f x)) xs
any_map p f [] = refl
any_map p f (x ∷ xs) = rw (any_map p f xs) refl

pub map_insert : {A B : Type 0} (f : A → B) (xs : List A) (i : ℕ) (y : A) → map f (insert xs i y) ≡ insert (map f xs) i (f y)
map_insert f xs i y = rw (map-append f (take i xs) (y ∷ drop i xs), take-map f i xs, drop-map f i xs) refl

-- ---- ranges of numbers

pub range_more : (a n : ℕ) → range_with_len a (n + 1) ≡ range_with_len a n ++ (a + n) ∷ []
range_more a n =
    sym (map-id (range_with_len a (n + 1))) ∙ map-range_with_len_more (λ k. k) a n (a + n) refl
    ∙ ap (λ (xs : List ℕ). xs ++ (a + n) ∷ []) (map-id (range_with_len a n))

pub filter_more : (p : ℕ → Bool) (n : ℕ) → filter p (range_with_len 0 (n + 1)) ≡ filter p (range_with_len 0 n) ++ cond (p n) (n ∷ []) []
filter_more p n =
    ap (filter p) (sym (map-id (range_with_len 0 (n + 1)))) ∙ filter_of_map_range_with_len_more p (λ k. k) 0 n n (omega arith)
    ∙ ap (λ (xs : List ℕ). filter p xs ++ cond (p n) (n ∷ []) []) (map-id (range_with_len 0 n))

pub filter_none : (p : ℕ → Bool) (a j : ℕ) → ((k : ℕ) → a ≤ k → k < a + j → p k ≡ false) → filter p (range_with_len 0 (a + j)) ≡ filter p (range_with_len 0 a)
filter_none p a zero h = ap (λ n. filter p (range_with_len 0 n)) (omega arith)
filter_none p a (suc j) h =
    let last : p (a + j) ≡ false = h (a + j) (omega arith) (omega arith) in
    let before : filter p (range_with_len 0 (a + j)) ≡ filter p (range_with_len 0 a) = filter_none p a j (λ k low high. h k low (omega arith)) in
    let next : a + suc j ≡ (a + j) + 1 = omega arith in
    ap (λ n. filter p (range_with_len 0 n)) next ∙ filter_more p (a + j)
    ∙ ap (λ b. filter p (range_with_len 0 (a + j)) ++ cond b ((a + j) ∷ []) []) last
    ∙ append-nil (filter p (range_with_len 0 (a + j))) ∙ before

pub filter_alike : (p q : ℕ → Bool) (a n : ℕ) → ((k : ℕ) → a ≤ k → k < a + n → p k ≡ q k) → filter p (range_with_len a n) ≡ filter q (range_with_len a n)
filter_alike p q a zero same = refl
filter_alike p q a (suc n) same =
    let behind : filter p (range_with_len (a + 1) n) ≡ filter q (range_with_len (a + 1) n) = filter_alike p q (a + 1) n (λ k low high. same k (omega arith) (omega arith)) in
    rw (same a (omega arith) (omega arith), behind) refl

pub count_more : (p : ℕ → Bool) (n : ℕ) → count_by p (range_with_len 0 (n + 1)) ≡ count_by p (range_with_len 0 n) + cond (p n) 1 0
count_more p n =
    ap (count_by p) (sym (map-id (range_with_len 0 (n + 1)))) ∙ sum_by-map-range_with_len_more (λ k. cond (p k) 1 0) (λ k. k) 0 n n (omega arith)
    ∙ ap (λ (xs : List ℕ). count_by p xs + cond (p n) 1 0) (map-id (range_with_len 0 n))

one_more : (b : Bool) (j : ℕ) → cond b (suc j) 0 ≡ cond b j 0 + cond b 1 0
one_more true j = omega arith
one_more false j = refl

pub count_alike : (p : ℕ → Bool) (b : Bool) (a j : ℕ) → ((k : ℕ) → a ≤ k → k < a + j → p k ≡ b) → count_by p (range_with_len 0 (a + j)) ≡ count_by p (range_with_len 0 a) + cond b j 0
count_alike p b a zero alike =
    let here : a + 0 ≡ a = omega arith in
    let same : count_by p (range_with_len 0 (a + 0)) ≡ count_by p (range_with_len 0 a) = ap (λ n. count_by p (range_with_len 0 n)) here in
    omega (arith, same, either {A = ℕ} b 0)
count_alike p b a (suc j) alike =
    let long : a + suc j ≡ (a + j) + 1 = omega arith in
    let next : count_by p (range_with_len 0 (a + suc j)) ≡ count_by p (range_with_len 0 ((a + j) + 1)) = ap (λ n. count_by p (range_with_len 0 n)) long in
    let more : count_by p (range_with_len 0 ((a + j) + 1)) ≡ count_by p (range_with_len 0 (a + j)) + cond b 1 0 = rw (alike (a + j) (omega arith) (omega arith)) at (count_more p (a + j)) in
    omega (arith, next, more, one_more b j, count_alike p b a j (λ k low high. alike k low (omega arith)))
