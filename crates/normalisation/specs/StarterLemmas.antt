-- The last starter of a list that grows.
-- CutsAt class xs cut   xs is what stands before a starter, the starter, and what stands after it, where no starter is; of None
--                       it says nothing
-- push_after y cut      the cut of a list with one more point at its end
-- last_starter_cuts     last_starter cuts a list so
-- last_starter_at       a starter behind which no other starter is is the last one, and the list is cut there
-- last_starter_push     one more point of another class than 0 stands after the last starter that the list had
use Rattle.std.proofs.Common.{◌≡◌, ℕ, Bool, true, false, cond, ◌==◌, List, [], ◌∷◌, ◌++◌, Option, Some, None, refl, ap, ◌∙◌, option_map, eqb-true, eq-eqb, ne_eqb}
use Rattle.std.specs.Prelude.{⊤}
use Rattle.ucd_model.specs.Composition.{Split, starter_behind, last_starter}

abbrev pub CutsAt : (ℕ → ℕ) → List ℕ → Option Split → Type 0
CutsAt class xs (Some cut) = (xs ≡ cut.before ++ cut.starter ∷ cut.after) × (class cut.starter ≡ 0) × (last_starter class cut.after ≡ None)
CutsAt class xs None = ⊤

abbrev pub push_after : ℕ → Split → Split
push_after y cut = record { before = cut.before; starter = cut.starter; after = cut.after ++ y ∷ [] }

-- ---- where it is

here_cuts : (class : ℕ → ℕ) (x : ℕ) (xs : List ℕ) → last_starter class xs ≡ None → (t : Bool) → (class x == 0) ≡ t → CutsAt class (x ∷ xs) (cond t (Some (record { before = []; starter = x; after = xs })) None)
here_cuts class x xs none true t = (refl, eqb-true (class x) 0 t, none)
here_cuts class x xs none false t = tt

behind_cuts : (class : ℕ → ℕ) (x : ℕ) (xs : List ℕ) (r : Option Split) → last_starter class xs ≡ r → CutsAt class xs r → CutsAt class (x ∷ xs) (starter_behind class x xs r)
behind_cuts class x xs (Some cut) e cuts = (ap (λ zs. x ∷ zs) cuts.0, cuts.1, cuts.2)
behind_cuts class x xs None e cuts = here_cuts class x xs e (class x == 0) refl

pub last_starter_cuts : (class : ℕ → ℕ) (xs : List ℕ) → CutsAt class xs (last_starter class xs)
last_starter_cuts class [] = tt
last_starter_cuts class (x ∷ xs) = behind_cuts class x xs (last_starter class xs) refl (last_starter_cuts class xs)

-- ---- a starter, and behind it no other

pub last_starter_at : (class : ℕ → ℕ) (P b : List ℕ) (q : ℕ) → class q ≡ 0 → last_starter class b ≡ None → last_starter class (P ++ q ∷ b) ≡ Some (record { before = P; starter = q; after = b })
last_starter_at class [] b q starts none = rw (none, eq-eqb (class q) 0 starts) refl
last_starter_at class (x ∷ P) b q starts none = ap (starter_behind class x (P ++ q ∷ b)) (last_starter_at class P b q starts none)

-- ---- one more point that is no starter

push_behind : (class : ℕ → ℕ) (x y : ℕ) (xs : List ℕ) (r : Option Split) → starter_behind class x (xs ++ y ∷ []) (option_map (push_after y) r) ≡ option_map (push_after y) (starter_behind class x xs r)
push_behind class x y xs (Some cut) = refl
push_behind class x y xs None = push_here (class x == 0) where
  push_here : (t : Bool) → cond t (Some (record { before = []; starter = x; after = xs ++ y ∷ [] })) None ≡ option_map (push_after y) (cond t (Some (record { before = []; starter = x; after = xs })) None)
  push_here true = refl
  push_here false = refl

pub last_starter_push : (class : ℕ → ℕ) (xs : List ℕ) (y : ℕ) → ¬ (class y ≡ 0) → last_starter class (xs ++ y ∷ []) ≡ option_map (push_after y) (last_starter class xs)
last_starter_push class [] y other = rw (ne_eqb (class y) 0 other) refl
last_starter_push class (x ∷ xs) y other = ap (starter_behind class x (xs ++ y ∷ [])) (last_starter_push class xs y other) ∙ push_behind class x y xs (last_starter class xs)
