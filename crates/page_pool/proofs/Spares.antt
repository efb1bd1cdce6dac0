-- Flags of pages, and the list of the pages that are not live.
use Rattle.std.proofs.Common.{◌≡◌, ◌≢◌, ℕ, zero, suc, ◌+◌, ◌<◌, Bool, true, false, not, ◌&&◌, ◌||◌, cond, ap, List, [], ◌∷◌, ◌++◌, length, get_or, set, replicate, refl, sym, ◌∙◌, arith, append_assoc, inl, inr, count_by}
use Rattle.std.proofs.lemmas.Bool.{cases_lt, true≢false}
use Rattle.std.proofs.Math.ListN.{get_or-append, length-set}
use Rattle.std.proofs.Math.Seq.{get_or-append_seam}
use Rattle.std.proofs.lemmas.List.Sums.{sum_by-set, sum_by-append, count_by-le-length}
use Rattle.std.proofs.lemmas.List.{get_or-set_same, get_or-set_other, length_push, replicate_more}
use Rattle.page_pool.specs.Pool.{IsFree}

pub flag_false_below : (xs : List Bool) (i : ℕ) → get_or xs i true ≡ false → i < length xs
flag_false_below [] i h = absurd (true≢false h)
flag_false_below (x ∷ xs) zero h = omega arith
flag_false_below (x ∷ xs) (suc i) h = let rest = flag_false_below xs i h in omega arith

pub flag_true : (xs : List Bool) (i : ℕ) → get_or xs i false ≡ true → get_or xs i true ≡ true
flag_true [] i h = refl
flag_true (x ∷ xs) zero h = h
flag_true (x ∷ xs) (suc i) h = flag_true xs i h

pub flag_true_below : (xs : List Bool) (i : ℕ) → get_or xs i false ≡ true → i < length xs
flag_true_below [] i h = absurd (true≢false (sym h))
flag_true_below (x ∷ xs) zero h = omega arith
flag_true_below (x ∷ xs) (suc i) h = let rest = flag_true_below xs i h in omega arith

-- how many are not live
weight : Bool → ℕ
weight b = cond (not b) 1 0

pub spare-set_true : (xs : List Bool) (i : ℕ) → get_or xs i true ≡ false → count_by not (set xs i true) + 1 ≡ count_by not xs
unfolding weight
spare-set_true xs i h =
    let sum = sum_by-set weight xs i true true (flag_false_below xs i h) in
    let was : weight (get_or xs i true) ≡ 1 = ap weight h in
    omega arith

pub spare-set_false : (xs : List Bool) (i : ℕ) → get_or xs i false ≡ true → count_by not (set xs i false) ≡ count_by not xs + 1
unfolding weight
spare-set_false xs i h =
    let sum = sum_by-set weight xs i false false (flag_true_below xs i h) in
    let was : weight (get_or xs i false) ≡ 0 = ap weight h in
    omega arith

pub spare-below : (xs : List Bool) (i : ℕ) → get_or xs i false ≡ true → count_by not xs < length xs
spare-below xs i h =
    let sum = spare-set_false xs i h in
    let most = count_by-le-length not (set xs i false) in
    let len = length-set xs i false in
    omega arith

pub spare-push : (xs : List Bool) → count_by not (xs ++ false ∷ []) ≡ count_by not xs + 1
unfolding weight
spare-push xs = sum_by-append weight xs (false ∷ [])

-- the last of the list is taken
pub last_listed : (live : List Bool) (old new : List ℕ) (p : ℕ) → IsFree live old → old ≡ new ++ p ∷ [] → get_or live p true ≡ false
last_listed live old new p f is =
    let h : length new < length old = rw is (omega (arith, length_push new p)) in
    let at = f.listed (length new) h in
    rw (is, get_or-append_seam new p [] 0) at at

pub IsFree-take : (live : List Bool) (old new : List ℕ) (p : ℕ) → IsFree live old → old ≡ new ++ p ∷ [] → IsFree (set live p true) new
IsFree-take live old new p f is =
    let len : length old ≡ length new + 1 = rw is (length_push new p) in
    let same = λ (i : ℕ) (h : i < length new). let e : get_or old i 0 ≡ get_or new i 0 = rw is (get_or-append new (p ∷ []) 0 i h) in e in
    let last : get_or old (length new) 0 ≡ p = rw is (get_or-append_seam new p [] 0) in
    record {
      listed = λ i h.
          let differs : get_or new i 0 ≢ p = λ e. f.apart i (length new) h (omega arith) (same i h ∙ e ∙ sym last) in
          get_or-set_other live p (get_or new i 0) true true differs ∙ (rw (same i h) at (f.listed i (omega arith)));
      apart = λ i j below h e. f.apart i j below (omega arith) (same i (omega arith) ∙ e ∙ sym (same j h));
      all = let count = spare-set_true live p (last_listed live old new p f is) in let all = f.all in omega arith;
    }

-- a live page is put at the end of the list
pub IsFree-give : (live : List Bool) (old new : List ℕ) (p : ℕ) → IsFree live old → get_or live p false ≡ true → new ≡ old ++ p ∷ [] → IsFree (set live p false) new
IsFree-give live old new p f h is =
    let len : length new ≡ length old + 1 = rw is (length_push old p) in
    let same = λ (i : ℕ) (h : i < length old). let e : get_or new i 0 ≡ get_or old i 0 = rw is (get_or-append old (p ∷ []) 0 i h) in e in
    let last : get_or new (length old) 0 ≡ p = rw is (get_or-append_seam old p [] 0) in
    let differs = λ (i : ℕ) (lt : i < length old) (e : get_or old i 0 ≡ p). true≢false (sym (flag_true live p h) ∙ rw e at (f.listed i lt)) in
    record {
      listed = λ i lt.
          elim (cases_lt i (length old)) [
            | inl below ↦ rw (same i below) (get_or-set_other live p (get_or old i 0) false true (differs i below) ∙ f.listed i below)
            | inr above ↦
                let at : i ≡ length old = omega arith in
                rw (at, last) (get_or-set_same live p false true (flag_true_below live p h))
          ];
      apart = λ i j below lt e.
          elim (cases_lt j (length old)) [
            | inl inner ↦ f.apart i j below inner (sym (same i (omega arith)) ∙ e ∙ same j inner)
            | inr above ↦
                let at : j ≡ length old = omega arith in
                differs i (omega arith) (sym (same i (omega arith)) ∙ e ∙ rw at last)
          ];
      all = let count = spare-set_false live p h in let all = f.all in omega arith;
    }

-- a page is put behind the others
pub IsFree-add : (live : List Bool) (old new : List ℕ) → IsFree live old → new ≡ old ++ length live ∷ [] → IsFree (live ++ false ∷ []) new
IsFree-add live old new f is =
    let len : length new ≡ length old + 1 = rw is (length_push old (length live)) in
    let same = λ (i : ℕ) (h : i < length old). let e : get_or new i 0 ≡ get_or old i 0 = rw is (get_or-append old (length live ∷ []) 0 i h) in e in
    let last : get_or new (length old) 0 ≡ length live = rw is (get_or-append_seam old (length live) [] 0) in
    let within = λ (i : ℕ) (lt : i < length old). flag_false_below live (get_or old i 0) (f.listed i lt) in
    record {
      listed = λ i lt.
          elim (cases_lt i (length old)) [
            | inl below ↦ rw (same i below) (get_or-append live (false ∷ []) true (get_or old i 0) (within i below) ∙ f.listed i below)
            | inr above ↦
                let at : i ≡ length old = omega arith in
                rw (at, last) (get_or-append_seam live false [] true)
          ];
      apart = λ i j below lt e.
          elim (cases_lt j (length old)) [
            | inl inner ↦ f.apart i j below inner (sym (same i (omega arith)) ∙ e ∙ same j inner)
            | inr above ↦
                let at : j ≡ length old = omega arith in
                let eq : get_or old i 0 ≡ length live = sym (same i (omega arith)) ∙ e ∙ rw at last in
                let lt' = within i (omega arith) in
                absurd (omega arith)
          ];
      all = let count = spare-push live in let all = f.all in omega arith;
    }

-- one more page behind the others
pub pages-push : (xs : List Bool) (n m : ℕ) → m ≡ n + 1 → (xs ++ replicate n false) ++ false ∷ [] ≡ xs ++ replicate m false
pages-push xs n m h = rw h (append_assoc xs (replicate n false) (false ∷ []) ∙ ap (λ ys. xs ++ ys) (replicate_more n false))
