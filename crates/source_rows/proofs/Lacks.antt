-- Texts that lack a separator.
use Rattle.std.proofs.Common.{◌≡◌, ℕ, Bool, true, false, List, [], ◌∷◌, ◌++◌, refl, sym, ap, ◌∙◌}
use Rattle.std.specs.List.{All, list_any, list_all, join_with_byte, slice_split}
use Rattle.std.proofs.lemmas.Bool.{or_parts, or_from, and_parts}
use Rattle.std.proofs.lemmas.List.Elements.{All-nil, All-cons, All-head, All-tail}
use Rattle.std.proofs.lemmas.List.Folds.{list_any-append}
use Rattle.std.proofs.lemmas.List.Splits.{slice_split_none, slice_split_at}

abbrev pub Lacks : (ℕ → Bool) → List ℕ → Type 0
Lacks p bs = list_any p bs ≡ false

pub lacks_both : (p : ℕ → Bool) (xs ys : List ℕ) → Lacks p xs → Lacks p ys → Lacks p (xs ++ ys)
lacks_both p xs ys h k = list_any-append p xs ys ∙ or_from (list_any p xs) (list_any p ys) h k

pub lacks_cons : (p : ℕ → Bool) (x : ℕ) (xs : List ℕ) → p x ≡ false → Lacks p xs → Lacks p (x ∷ xs)
lacks_cons p x xs h k = or_from (p x) (list_any p xs) h k

pub lacks_parts : (p : ℕ → Bool) (xs ys : List ℕ) → Lacks p (xs ++ ys) → Lacks p xs × Lacks p ys
lacks_parts p xs ys h = or_parts (list_any p xs) (list_any p ys) (sym (list_any-append p xs ys) ∙ h)

-- a text of bytes that are no separators
pub lacks_all : (p q : ℕ → Bool) (xs : List ℕ) → ((b : ℕ) → q b ≡ true → p b ≡ false) → list_all q xs ≡ true → Lacks p xs
lacks_all p q [] f h = refl
lacks_all p q (x ∷ xs) f h =
    let k = and_parts (q x) (list_all q xs) h in
    or_from (p x) (list_any p xs) (f x k.0) (lacks_all p q xs f k.1)

pub lacks_each : (p : ℕ → Bool) (xs : List ℕ) → Lacks p xs → All (λ x. p x ≡ false) xs
lacks_each p [] h = All-nil (λ x. p x ≡ false)
lacks_each p (x ∷ xs) h = let k = or_parts (p x) (list_any p xs) h in All-cons (λ y. p y ≡ false) x xs k.0 (lacks_each p xs k.1)

-- texts joined by a byte
pub lacks_join : (p : ℕ → Bool) (c : ℕ) (fs : List (List ℕ)) → p c ≡ false → All (Lacks p) fs → Lacks p (join_with_byte c fs)
lacks_join p c [] e h = refl
lacks_join p c (f ∷ []) e h = All-head (Lacks p) f [] h
lacks_join p c (f ∷ g ∷ fs) e h = lacks_both p f (c ∷ join_with_byte c (g ∷ fs)) (All-head (Lacks p) f (g ∷ fs) h) (lacks_cons p c (join_with_byte c (g ∷ fs)) e (lacks_join p c (g ∷ fs) e (All-tail (Lacks p) f (g ∷ fs) h)))

-- texts that are joined by a separator, and cut there again
pub split_join : (p : ℕ → Bool) (c : ℕ) (f : List ℕ) (fs : List (List ℕ)) → p c ≡ true → All (Lacks p) (f ∷ fs) → slice_split p (join_with_byte c (f ∷ fs)) ≡ f ∷ fs
split_join p c f [] e h = slice_split_none p f (lacks_each p f (All-head (Lacks p) f [] h))
split_join p c f (g ∷ fs) e h = slice_split_at p f c (join_with_byte c (g ∷ fs)) (lacks_each p f (All-head (Lacks p) f (g ∷ fs) h)) e ∙ ap (λ (gs : List (List ℕ)). f ∷ gs) (split_join p c g fs e (All-tail (Lacks p) f (g ∷ fs) h))
