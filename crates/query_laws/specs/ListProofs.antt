-- What holds of each member of a list.
-- Each-left, Each-right    of both parts of a joined list
-- Each-both                of the joined list, where it holds of both parts
-- Each-if                  of either of two lists
-- Each-to                  what follows for each member holds of each
-- to_all, from_all         in std's words, and back
-- Each-filter              of the members that pass a test
-- list_all-same, filter-same, flat_map-same, map-same   the same where the functions are the same at each member
-- every                    what holds of everything holds of each
-- both_parts, appended_parts   where both of two optional lists are there, and where neither of two results is a rule
use Rattle.std.proofs.Common.{◌≡◌, ℕ, Bool, true, false, cond, List, [], ◌∷◌, ◌++◌, Option, Some, None, Result, Ok, Err, filter, map, refl}
use Rattle.std.specs.List.{AllByRecursion, flat_map}
use Rattle.ucd_facts.specs.Expansion.{both}
use Rattle.ucd_model.specs.Forms.{appended}
use Rattle.ucd_facts.specs.declared.form.Bad.{Bad as Rule}
use Rattle.ucd_facts.specs.Answers.{Each}

pub Each-left : {X : Type 0} (P : X → Type 0) (xs ys : List X) → Each P (xs ++ ys) → Each P xs
Each-left P [] ys e = tt
Each-left P (x ∷ xs) ys e = (e.0, Each-left P xs ys e.1)

pub Each-right : {X : Type 0} (P : X → Type 0) (xs ys : List X) → Each P (xs ++ ys) → Each P ys
Each-right P [] ys e = e
Each-right P (x ∷ xs) ys e = Each-right P xs ys e.1

pub Each-both : {X : Type 0} (P : X → Type 0) (xs ys : List X) → Each P xs → Each P ys → Each P (xs ++ ys)
Each-both P [] ys a b = b
Each-both P (x ∷ xs) ys a b = (a.0, Each-both P xs ys a.1 b)

pub Each-if : {X : Type 0} (P : X → Type 0) (b : Bool) (xs ys : List X) → Each P xs → Each P ys → Each P (cond b xs ys)
Each-if P true xs ys a b = a
Each-if P false xs ys a b = b

pub every : {X : Type 0} (P : X → Type 0) → ((x : X) → P x) → (xs : List X) → Each P xs
every P each [] = tt
every P each (x ∷ xs) = (each x, every P each xs)

pub Each-to : {X : Type 0} (P Q : X → Type 0) → ((x : X) → P x → Q x) → (xs : List X) → Each P xs → Each Q xs
Each-to P Q f [] e = tt
Each-to P Q f (x ∷ xs) e = (f x e.0, Each-to P Q f xs e.1)

pub to_all : {X : Type 0} (P : X → Type 0) (xs : List X) → Each P xs → AllByRecursion P xs
to_all P [] e = tt
to_all P (x ∷ xs) e = (e.0, to_all P xs e.1)

pub from_all : {X : Type 0} (P : X → Type 0) (xs : List X) → AllByRecursion P xs → Each P xs
from_all P [] e = tt
from_all P (x ∷ xs) e = (e.0, from_all P xs e.1)

pub filter-same : (p q : ℕ → Bool) (xs : List ℕ) → Each (λ x. p x ≡ q x) xs → filter p xs ≡ filter q xs
filter-same p q [] e = refl
filter-same p q (x ∷ xs) e = rw (e.0, filter-same p q xs e.1) refl

pub Each-filter : (P : ℕ → Type 0) (p : ℕ → Bool) (xs : List ℕ) → Each P xs → Each P (filter p xs)
Each-filter P p [] e = tt
Each-filter P p (x ∷ xs) e =
    let rest = Each-filter P p xs e.1 in
    Each-if P (p x) (x ∷ filter p xs) (filter p xs) (e.0, rest) rest

pub flat_map-same : {A : Type 0} (f g : ℕ → List A) (xs : List ℕ) → Each (λ x. f x ≡ g x) xs → flat_map f xs ≡ flat_map g xs
flat_map-same f g [] e = refl
flat_map-same f g (x ∷ xs) e = rw (e.0, flat_map-same f g xs e.1) refl

pub map-same : (f g : ℕ → ℕ) (xs : List ℕ) → Each (λ x. f x ≡ g x) xs → map f xs ≡ map g xs
map-same f g [] e = refl
map-same f g (x ∷ xs) e = rw (e.0, map-same f g xs e.1) refl

pub record BothParts (a b : Option (List ℕ)) (xs : List ℕ) : Type 0 where
  pub front : List ℕ
  pub rest : List ℕ
  pub first : a ≡ Some front
  pub second : b ≡ Some rest
  pub whole : front ++ rest ≡ xs

pub both_parts : (a b : Option (List ℕ)) (xs : List ℕ) → both a b ≡ Some xs → BothParts a b xs
both_parts (Some ys) (Some zs) xs e = record { front = ys; rest = zs; first = refl; second = refl; whole = cc }
both_parts (Some ys) None xs e = cc
both_parts None b xs e = cc

pub record AppendedParts (a b : Result (List ℕ) Rule) (xs : List ℕ) : Type 0 where
  pub front : List ℕ
  pub rest : List ℕ
  pub first : a ≡ Ok front
  pub second : b ≡ Ok rest
  pub whole : front ++ rest ≡ xs

pub appended_parts : (a b : Result (List ℕ) Rule) (xs : List ℕ) → appended a b ≡ Ok xs → AppendedParts a b xs
appended_parts (Ok ys) (Ok zs) xs e = record { front = ys; rest = zs; first = refl; second = refl; whole = cc }
appended_parts (Ok ys) (Err rule) xs e = cc
appended_parts (Err rule) b xs e = cc
