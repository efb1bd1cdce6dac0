-- A text, a separator that it lacks, and a text behind it.
use Rattle.std.proofs.Common.{◌≡◌, ℕ, ◌<◌, Bool, true, false, List, [], ◌∷◌, ◌++◌, length, refl, arith, one-add, take_all}
use Rattle.std.specs.List.{list_any, position_or_len, before_first, after_first}
use Rattle.std.proofs.lemmas.Bool.{or_parts, false≢true}
use Rattle.std.proofs.Math.Seq.{take-append_seam, drop-append-add}

pub at_seam : (p : ℕ → Bool) (xs : List ℕ) (y : ℕ) (ys : List ℕ) → list_any p xs ≡ false → p y ≡ true → position_or_len p (xs ++ y ∷ ys) ≡ length xs
at_seam p [] y ys h e = rw e refl
at_seam p (x ∷ xs) y ys h e =
    let k = or_parts (p x) (list_any p xs) h in
    rw (k.0, at_seam p xs y ys k.1 e) (omega arith)

pub before_seam : (p : ℕ → Bool) (xs : List ℕ) (y : ℕ) (ys : List ℕ) → list_any p xs ≡ false → p y ≡ true → before_first p (xs ++ y ∷ ys) ≡ xs
before_seam p xs y ys h e = rw (at_seam p xs y ys h e) (take-append_seam xs (y ∷ ys))

pub after_seam : (p : ℕ → Bool) (xs : List ℕ) (y : ℕ) (ys : List ℕ) → list_any p xs ≡ false → p y ≡ true → after_first p (xs ++ y ∷ ys) ≡ ys
after_seam p xs y ys h e = rw (at_seam p xs y ys h e) (drop-append-add xs (y ∷ ys) 1)

-- where the separator is lacking, it is found at the end
pub at_no_seam : (p : ℕ → Bool) (xs : List ℕ) → list_any p xs ≡ false → position_or_len p xs ≡ length xs
at_no_seam p [] h = refl
at_no_seam p (x ∷ xs) h =
    let k = or_parts (p x) (list_any p xs) h in
    rw (k.0, at_no_seam p xs k.1) (omega arith)

pub before_no_seam : (p : ℕ → Bool) (xs : List ℕ) → list_any p xs ≡ false → before_first p xs ≡ xs
before_no_seam p xs h = rw (at_no_seam p xs h) (take_all (length xs) xs (omega arith))

-- ---- the first separator of a text

pub first_within : (p : ℕ → Bool) (xs : List ℕ) → list_any p xs ≡ true → position_or_len p xs < length xs
first_within p [] h = absurd (false≢true h)
first_within p (x ∷ xs) h = within_step p x xs (p x) refl h (λ k. first_within p xs k)
  where
    within_step : (p : ℕ → Bool) (x : ℕ) (xs : List ℕ) (b : Bool) → p x ≡ b → list_any p (x ∷ xs) ≡ true → (list_any p xs ≡ true → position_or_len p xs < length xs) → position_or_len p (x ∷ xs) < length (x ∷ xs)
    within_step p x xs true e h ih = rw e (omega arith)
    within_step p x xs false e h ih = let k = rw e at h in let i = ih k in rw e (omega arith)

pub lacks_before : (p : ℕ → Bool) (xs : List ℕ) → list_any p (before_first p xs) ≡ false
lacks_before p [] = refl
lacks_before p (x ∷ xs) = before_step p x xs (p x) refl (lacks_before p xs)
  where
    before_step : (p : ℕ → Bool) (x : ℕ) (xs : List ℕ) (b : Bool) → p x ≡ b → list_any p (before_first p xs) ≡ false → list_any p (before_first p (x ∷ xs)) ≡ false
    before_step p x xs true e ih = rw e refl
    before_step p x xs false e ih = rw (e, one-add, e) ih
