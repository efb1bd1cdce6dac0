-- Entries and their items pass the same tests at the same places.
use Rattle.std.proofs.Common.{◌≡◌, Bool, not, List, [], ◌∷◌, ◌++◌, map, reverse, refl, sym, ap, ◌∙◌}
use Rattle.std.specs.List.{All, list_any, position_or_len, prefix_len, suffix_len}
use Rattle.std.proofs.lemmas.List.{map-append, reverse-append}
use Rattle.std.proofs.lemmas.List.Elements.{All-head, All-tail}

tests : {A : Type 0} {B : Type 0} (p : A → Bool) (q : B → Bool) (f : A → B) (xs : List A) → All (λ x. p x ≡ q (f x)) xs → map p xs ≡ map q (map f xs)
tests p q f [] h = refl
tests p q f (x ∷ xs) h = rw (All-head (λ x. p x ≡ q (f x)) x xs h, tests p q f xs (All-tail (λ x. p x ≡ q (f x)) x xs h)) refl

any_by : {A : Type 0} (p : A → Bool) (xs : List A) → list_any p xs ≡ list_any (λ b. b) (map p xs)
any_by p [] = refl
any_by p (x ∷ xs) = rw (any_by p xs) refl

prefix_by : {A : Type 0} (p : A → Bool) (xs : List A) → prefix_len (λ x. not (p x)) xs ≡ prefix_len not (map p xs)
prefix_by p [] = refl
prefix_by p (x ∷ xs) = rw (prefix_by p xs) refl

map_reverse : {A : Type 0} {B : Type 0} (f : A → B) (xs : List A) → map f (reverse xs) ≡ reverse (map f xs)
map_reverse f [] = refl
map_reverse f (x ∷ xs) =
    ap (map f) (reverse-append (x ∷ []) xs) ∙ map-append f (reverse xs) (x ∷ []) ∙ ap (λ ys. ys ++ f x ∷ []) (map_reverse f xs)
    ∙ sym (reverse-append (f x ∷ []) (map f xs))

suffix_by : {A : Type 0} (p : A → Bool) (xs : List A) → suffix_len (λ x. not (p x)) xs ≡ suffix_len not (map p xs)
suffix_by p xs = prefix_by p (reverse xs) ∙ ap (prefix_len not) (map_reverse p xs)

pub any_moved : {A : Type 0} {B : Type 0} (p : A → Bool) (q : B → Bool) (f : A → B) (xs : List A) → All (λ x. p x ≡ q (f x)) xs → list_any p xs ≡ list_any q (map f xs)
any_moved p q f xs h = any_by p xs ∙ ap (list_any (λ b. b)) (tests p q f xs h) ∙ sym (any_by q (map f xs))

pub first_moved : {A : Type 0} {B : Type 0} (p : A → Bool) (q : B → Bool) (f : A → B) (xs : List A) → All (λ x. p x ≡ q (f x)) xs → position_or_len p xs ≡ position_or_len q (map f xs)
first_moved p q f xs h = prefix_by p xs ∙ ap (prefix_len not) (tests p q f xs h) ∙ sym (prefix_by q (map f xs))

pub last_moved : {A : Type 0} {B : Type 0} (p : A → Bool) (q : B → Bool) (f : A → B) (xs : List A) → All (λ x. p x ≡ q (f x)) xs → suffix_len (λ x. not (p x)) xs ≡ suffix_len (λ y. not (q y)) (map f xs)
last_moved p q f xs h = suffix_by p xs ∙ ap (suffix_len not) (tests p q f xs h) ∙ sym (suffix_by q (map f xs))
