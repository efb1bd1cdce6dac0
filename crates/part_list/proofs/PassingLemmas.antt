-- The entries that pass.
use Rattle.std.proofs.Common.{◌≡◌, ℕ, zero, suc, ◌+◌, ◌<◌, Bool, true, false, List, [], ◌∷◌, ◌++◌, length, drop, get_or, refl, sym, ap, ◌∙◌, arith}
use Rattle.std.specs.List.{All, filter, position_or_len}
use Rattle.std.proofs.lemmas.List.Elements.{filter-append}

pub none_pass : {A : Type 0} (p : A → Bool) (xs : List A) → All (λ x. p x ≡ false) xs → filter p xs ≡ []
none_pass p [] h = refl
none_pass p (x ∷ xs) h =
    let here : p x ≡ false = h 0 x (omega arith) in
    rw here (none_pass p xs (λ k d lt. h (suc k) d (omega arith)))

none_found : {A : Type 0} (p : A → Bool) (xs : List A) → position_or_len p xs ≡ length xs → filter p xs ≡ []
none_found p [] h = refl
none_found p (x ∷ xs) h = by (p x) refl (none_found p xs)
  where
    by : (b : Bool) → p x ≡ b → (position_or_len p xs ≡ length xs → filter p xs ≡ []) → filter p (x ∷ xs) ≡ []
    by true e more = absurd (let k = (rw e at h) in omega arith)
    by false e more = rw e (more (let k = (rw e at h) in omega arith))

-- the first entry that passes, and those that pass behind it
one_found : {A : Type 0} (p : A → Bool) (xs : List A) (at : ℕ) (d : A) → at < length xs → position_or_len p xs ≡ at → filter p xs ≡ get_or xs at d ∷ filter p (drop (at + 1) xs)
one_found p [] at d lt h = absurd (omega arith)
one_found p (x ∷ xs) zero d lt h = by (p x) refl
  where
    by : (b : Bool) → p x ≡ b → filter p (x ∷ xs) ≡ x ∷ filter p xs
    by true e = rw e refl
    by false e = absurd (let k = (rw e at h) in omega arith)
one_found p (x ∷ xs) (suc n) d lt h =
    let next : suc n + 1 ≡ suc (n + 1) = omega arith in
    rw next (by (p x) refl (one_found p xs n d))
  where
    by : (b : Bool) → p x ≡ b → (n < length xs → position_or_len p xs ≡ n → filter p xs ≡ get_or xs n d ∷ filter p (drop (n + 1) xs)) → filter p (x ∷ xs) ≡ get_or xs n d ∷ filter p (drop (n + 1) xs)
    by true e more = absurd (let k = (rw e at h) in omega arith)
    by false e more = rw e (more (omega arith) (let k = (rw e at h) in omega arith))

-- what is left, once one more entry is given out
pub next_left : {A : Type 0} (p : A → Bool) (xs ys behind left : List A) (at : ℕ) (d : A) → filter p (xs ++ ys) ≡ left → at < length xs → position_or_len p xs ≡ at → behind ≡ drop (at + 1) xs → left ≡ get_or xs at d ∷ filter p (behind ++ ys)
next_left p xs ys behind left at d is lt first rest =
    sym is
    ∙ filter-append p xs ys
    ∙ ap (λ zs. zs ++ filter p ys) (one_found p xs at d lt first)
    ∙ ap (λ zs. get_or xs at d ∷ zs) (sym (filter-append p (drop (at + 1) xs) ys) ∙ ap (λ zs. filter p (zs ++ ys)) (sym rest))

-- none of the entries of the part that was begun is left
pub behind_left : {A : Type 0} (p : A → Bool) (xs ys left : List A) → filter p (xs ++ ys) ≡ left → position_or_len p xs ≡ length xs → left ≡ filter p ys
behind_left p xs ys left is none = sym is ∙ filter-append p xs ys ∙ ap (λ zs. zs ++ filter p ys) (none_found p xs none)
