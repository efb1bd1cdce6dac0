-- What holds of each member of a list, ordered and composed.
--
-- f and g are canonical combining classes.
-- Each-append, Each-front, Each-back   of two lists joined, and of the first and the second of them
-- Each-if                  of either of two lists
-- Each-to                  what follows for each member holds of each
-- list_all-same            the same if the tests are the same at each member
-- Each-order               of the ordered list
-- order_same, reached_same lists whose members have the same classes are put in the same order, and a point reaches the same starter
-- Parts P cut, Cut P       P holds of the parts of a list around its last starter, if there is one
-- reached_parts            of the parts around the starter that a point reaches
-- composite_each, point_each   of the list with one more point, if it holds of each composite
use Rattle.std.proofs.Common.{◌≡◌, ℕ, Bool, true, false, cond, ◌==◌, nat_lt, List, [], ◌∷◌, ◌++◌, Option, Some, None, refl, ap, ◌∙◌}
use Rattle.std.specs.List.{AllByRecursion as Each, list_all}
use Rattle.ucd_model.specs.CanonicalOrder.{greater, placed, with_next, order_onto, order}
use Rattle.ucd_model.specs.Composition.{Split, starter_behind, last_starter, is_open, where_open, reached, with_composite, with_point}

pub Each-append : (P : ℕ → Type 0) (xs ys : List ℕ) → Each P xs → Each P ys → Each P (xs ++ ys)
Each-append P [] ys p q = q
Each-append P (x ∷ xs) ys p q = (p.0, Each-append P xs ys p.1 q)

pub Each-front : (P : ℕ → Type 0) (xs ys : List ℕ) → Each P (xs ++ ys) → Each P xs
Each-front P [] ys p = tt
Each-front P (x ∷ xs) ys p = (p.0, Each-front P xs ys p.1)

pub Each-back : (P : ℕ → Type 0) (xs ys : List ℕ) → Each P (xs ++ ys) → Each P ys
Each-back P [] ys p = p
Each-back P (x ∷ xs) ys p = Each-back P xs ys p.1

pub Each-if : (P : ℕ → Type 0) (b : Bool) (xs ys : List ℕ) → Each P xs → Each P ys → Each P (cond b xs ys)
Each-if P true xs ys e f = e
Each-if P false xs ys e f = f

pub Each-to : (P Q : ℕ → Type 0) → ((x : ℕ) → P x → Q x) → (xs : List ℕ) → Each P xs → Each Q xs
Each-to P Q to [] e = tt
Each-to P Q to (x ∷ xs) e = (to x e.0, Each-to P Q to xs e.1)

pub list_all-same : (p q : ℕ → Bool) (xs : List ℕ) → Each (λ x. p x ≡ q x) xs → list_all p xs ≡ list_all q xs
list_all-same p q [] e = refl
list_all-same p q (x ∷ xs) e = rw (e.0, list_all-same p q xs e.1) refl

-- ---- order

module _ (P : ℕ → Type 0) (f : ℕ → ℕ) where
  Each-placed : (y : ℕ) (xs : List ℕ) → P y → Each P xs → Each P (placed f y xs)
  Each-placed y [] here e = (here, tt)
  Each-placed y (x ∷ xs) here e = Each-if P (list_all (greater f y) (x ∷ xs)) (y ∷ x ∷ xs) (x ∷ placed f y xs) (here, e) (e.0, Each-placed y xs here e.1)

  Each-next : (y : ℕ) (xs : List ℕ) → P y → Each P xs → Each P (with_next f xs y)
  Each-next y xs here e = Each-if P (f y == 0) (xs ++ y ∷ []) (placed f y xs) (Each-append P xs (y ∷ []) e (here, tt)) (Each-placed y xs here e)

  Each-order_onto : (done rest : List ℕ) → Each P done → Each P rest → Each P (order_onto f done rest)
  Each-order_onto done [] d r = d
  Each-order_onto done (y ∷ rest) d r = Each-order_onto (with_next f done y) rest (Each-next y done r.0 d) r.1

  pub Each-order : (xs : List ℕ) → Each P xs → Each P (order f xs)
  Each-order xs e = Each-order_onto [] xs tt e

module _ (f g : ℕ → ℕ) where
  abbrev Same : List ℕ → Type 0
  Same xs = Each (λ x. f x ≡ g x) xs

  greater_same : (y x : ℕ) → f y ≡ g y → f x ≡ g x → greater f y x ≡ greater g y x
  greater_same y x a b = rw (a, b) refl

  placed_same : (y : ℕ) (xs : List ℕ) → f y ≡ g y → Same xs → placed f y xs ≡ placed g y xs
  placed_same y [] here e = refl
  placed_same y (x ∷ xs) here e =
      let tests : list_all (greater f y) (x ∷ xs) ≡ list_all (greater g y) (x ∷ xs) = list_all-same (greater f y) (greater g y) (x ∷ xs) (Each-to (λ x. f x ≡ g x) (λ x. greater f y x ≡ greater g y x) (λ x same. greater_same y x here same) (x ∷ xs) e) in
      ap (λ b. cond b (y ∷ x ∷ xs) (x ∷ placed f y xs)) tests ∙ ap (λ rest. cond (list_all (greater g y) (x ∷ xs)) (y ∷ x ∷ xs) (x ∷ rest)) (placed_same y xs here e.1)

  next_same : (y : ℕ) (xs : List ℕ) → f y ≡ g y → Same xs → with_next f xs y ≡ with_next g xs y
  next_same y xs here e =
      ap (λ k. cond (k == 0) (xs ++ y ∷ []) (placed f y xs)) here ∙ ap (λ rest. cond (g y == 0) (xs ++ y ∷ []) rest) (placed_same y xs here e)

  order_onto_same : (done rest : List ℕ) → Same done → Same rest → order_onto f done rest ≡ order_onto g done rest
  order_onto_same done [] d r = refl
  order_onto_same done (y ∷ rest) d r =
      order_onto_same (with_next f done y) rest (Each-next (λ x. f x ≡ g x) f y done r.0 d) r.1
      ∙ ap (λ done. order_onto g done rest) (next_same y done r.0 d)

  pub order_same : (xs : List ℕ) → Same xs → order f xs ≡ order g xs
  order_same xs e = order_onto_same [] xs tt e

-- ---- composition

pub record Parts (P : ℕ → Type 0) (cut : Split) : Type 0 where
  pub before : Each P cut.before
  pub starter : P cut.starter
  pub after : Each P cut.after

abbrev pub Cut : (ℕ → Type 0) → Option Split → Type 0
Cut P None = Unit {0}
Cut P (Some cut) = Parts P cut

module _ (P : ℕ → Type 0) (f : ℕ → ℕ) where
  cut_if : (b : Bool) (x : ℕ) (xs : List ℕ) → P x → Each P xs → Cut P (cond b (Some (record { before = []; starter = x; after = xs })) None)
  cut_if true x xs here e = record { before = tt; starter = here; after = e }
  cut_if false x xs here e = tt

  cut_behind : (x : ℕ) (xs : List ℕ) (cut : Option Split) → P x → Each P xs → Cut P cut → Cut P (starter_behind f x xs cut)
  cut_behind x xs (Some cut) here e c = record { before = (here, c.before); starter = c.starter; after = c.after }
  cut_behind x xs None here e c = cut_if (f x == 0) x xs here e

  cut_parts : (xs : List ℕ) → Each P xs → Cut P (last_starter f xs)
  cut_parts [] e = tt
  cut_parts (x ∷ xs) e = cut_behind x xs (last_starter f xs) e.0 e.1 (cut_parts xs e.1)

  open_cut : (b : Bool) (cut : Split) → Parts P cut → Cut P (cond b (Some cut) None)
  open_cut true cut c = c
  open_cut false cut c = tt

  where_parts : (y : ℕ) (cut : Option Split) → Cut P cut → Cut P (where_open f y cut)
  where_parts y (Some cut) c = open_cut (is_open f y cut.after) cut c
  where_parts y None c = tt

  pub reached_parts : (xs : List ℕ) (y : ℕ) → Each P xs → Cut P (reached f xs y)
  reached_parts xs y e = where_parts y (last_starter f xs) (cut_parts xs e)

  pub composite_each : (xs : List ℕ) (y : ℕ) (cut : Split) (r : Option ℕ) → ((q : ℕ) → r ≡ Some q → P q) → P y → Each P xs → Parts P cut → Each P (with_composite xs y cut r)
  composite_each xs y cut (Some q) here last e c = Each-append P cut.before (q ∷ cut.after) c.before (here q refl, c.after)
  composite_each xs y cut None here last e c = Each-append P xs (y ∷ []) e (last, tt)

  pub point_each : (pair : ℕ → ℕ → Option ℕ) (xs : List ℕ) (y : ℕ) (cut : Option Split) → ((s t q : ℕ) → pair s t ≡ Some q → P q) → P y → Each P xs → Cut P cut → Each P (with_point pair xs y cut)
  point_each pair xs y (Some cut) made last e c = composite_each xs y cut (pair cut.starter y) (made cut.starter y) last e c
  point_each pair xs y None made last e c = Each-append P xs (y ∷ []) e (last, tt)

module _ (f g : ℕ → ℕ) where
  behind_same : (x : ℕ) (xs : List ℕ) (cut : Option Split) → f x ≡ g x → starter_behind f x xs cut ≡ starter_behind g x xs cut
  behind_same x xs (Some cut) e = refl
  behind_same x xs None e = ap (λ k. cond (k == 0) (Some (record { before = []; starter = x; after = xs })) None) e

  last_same : (xs : List ℕ) → Each (λ x. f x ≡ g x) xs → last_starter f xs ≡ last_starter g xs
  last_same [] e = refl
  last_same (x ∷ xs) e = behind_same x xs (last_starter f xs) e.0 ∙ ap (starter_behind g x xs) (last_same xs e.1)

  open_same : (y : ℕ) (after : List ℕ) → f y ≡ g y → Each (λ x. f x ≡ g x) after → is_open f y after ≡ is_open g y after
  open_same y after here e = list_all-same (λ x. nat_lt (f x) (f y)) (λ x. nat_lt (g x) (g y)) after (Each-to (λ x. f x ≡ g x) (λ x. nat_lt (f x) (f y) ≡ nat_lt (g x) (g y)) (λ x same. rw (same, here) refl) after e)

  where_same : (y : ℕ) (cut : Option Split) → f y ≡ g y → Cut (λ x. f x ≡ g x) cut → where_open f y cut ≡ where_open g y cut
  where_same y (Some cut) here c = ap (λ b. cond b (Some cut) None) (open_same y cut.after here c.after)
  where_same y None here c = refl

  pub reached_same : (xs : List ℕ) (y : ℕ) → f y ≡ g y → Each (λ x. f x ≡ g x) xs → reached f xs y ≡ reached g xs y
  reached_same xs y here e = where_same y (last_starter f xs) here (cut_parts (λ x. f x ≡ g x) f xs e) ∙ ap (where_open g y) (last_same xs e)
