-- Proofs of the laws of composition.
-- compose_onto-append      composing two joined lists is composing the first, and then the second behind it
-- compose_push             so one more point is put behind what is composed before it
-- no_last_starter          a list in which no point has class 0 has no last starter
-- composed_with_replaced   one more point, not blocked from the last starter of a list and with a composite: that takes the
--                          starter's place
-- composed_with_blocked    a blocked one stays at the end
-- composed_with_unpaired   so does one without a composite
-- composites_replace, blocked_stay, unpaired_stay, starterless_stay, nothing_composes   the laws of the same names
use Rattle.std.proofs.Common.{◌≡◌, ℕ, Bool, true, false, cond, not, ◌&&◌, ◌||◌, ◌==◌, nat_lt, nat_le, List, [], ◌∷◌, ◌++◌, Option, Some, None, refl, ap, ◌∙◌, arith}
use Rattle.std.proofs.lemmas.Bool.Decides.{nat_tests}
use Rattle.std.proofs.lemmas.Bool.{and_parts, not-true}
use Rattle.ucd_model.specs.Composition.{is_open, where_open, last_starter, reached, with_composite, with_point, composed_with, compose_onto, compose}
use Rattle.normalisation.specs.StarterLemmas.{last_starter_at}
use Rattle.normalisation.specs.CompositionLaws.{has_no_starter, is_blocked, LastStarter, CompositesReplace, BlockedStay, UnpairedStay, StarterlessStay, EmptyComposesToEmpty}

pub compose_onto-append : (class : ℕ → ℕ) (pair : ℕ → ℕ → Option ℕ) (done xs ys : List ℕ) → compose_onto class pair done (xs ++ ys) ≡ compose_onto class pair (compose_onto class pair done xs) ys
compose_onto-append class pair done [] ys = refl
compose_onto-append class pair done (x ∷ xs) ys = compose_onto-append class pair (composed_with class pair done x) xs ys

pub compose_push : (class : ℕ → ℕ) (pair : ℕ → ℕ → Option ℕ) (xs : List ℕ) (y : ℕ) → compose class pair (xs ++ y ∷ []) ≡ composed_with class pair (compose class pair xs) y
compose_push class pair xs y = compose_onto-append class pair [] xs (y ∷ [])

-- ---- the last starter

pub no_last_starter : (class : ℕ → ℕ) (xs : List ℕ) → has_no_starter class xs ≡ true → last_starter class xs ≡ None
no_last_starter class [] e = refl
no_last_starter class (x ∷ xs) e =
    let parts = and_parts (not (class x == 0)) (has_no_starter class xs) e in
    rw (no_last_starter class xs parts.1, not-true (class x == 0) parts.0) refl

last_starter_is : (class : ℕ → ℕ) (xs before after : List ℕ) (s : ℕ) → LastStarter class xs before s after → last_starter class xs ≡ Some (record { before = before; starter = s; after = after })
last_starter_is class xs before after s last = ap (last_starter class) last.list ∙ last_starter_at class before after s last.starter (no_last_starter class after last.last)

-- ---- what blocks

open_one : (n k : ℕ) (b c : Bool) → (n == 0) ≡ false → b ≡ not c → nat_lt n k && b ≡ not ((n == 0 || nat_le k n) || c)
open_one n k true true e f = cc
open_one n k true false e f = grind (arith, nat_tests)
open_one n k false true e f = grind (arith, nat_tests)
open_one n k false false e f = cc

open_blocked : (class : ℕ → ℕ) (y : ℕ) (after : List ℕ) → has_no_starter class after ≡ true → is_open class y after ≡ not (is_blocked class after y)
open_blocked class y [] none = refl
open_blocked class y (x ∷ after) none =
    let parts = and_parts (not (class x == 0)) (has_no_starter class after) none in
    open_one (class x) (class y) (is_open class y after) (is_blocked class after y) (not-true (class x == 0) parts.0) (open_blocked class y after parts.1)

-- ---- one point more

module _ (class : ℕ → ℕ) (pair : ℕ → ℕ → Option ℕ) (xs before after : List ℕ) (s y : ℕ) (last : LastStarter class xs before s after) where
  reached_is : (t : Bool) → is_blocked class after y ≡ t → reached class xs y ≡ cond (not t) (Some (record { before = before; starter = s; after = after })) None
  reached_is t e = ap (where_open class y) (last_starter_is class xs before after s last) ∙ ap (λ b. cond b (Some (record { before = before; starter = s; after = after })) None) (open_blocked class y after last.last ∙ ap not e)

  pub composed_with_replaced : (q : ℕ) → is_blocked class after y ≡ false → pair s y ≡ Some q → composed_with class pair xs y ≡ before ++ q ∷ after
  composed_with_replaced q free e = ap (with_point pair xs y) (reached_is false free) ∙ ap (with_composite xs y (record { before = before; starter = s; after = after })) e

  pub composed_with_blocked : is_blocked class after y ≡ true → composed_with class pair xs y ≡ xs ++ y ∷ []
  composed_with_blocked blocked = ap (with_point pair xs y) (reached_is true blocked)

  unpaired : pair s y ≡ None → (t : Bool) → with_point pair xs y (cond (not t) (Some (record { before = before; starter = s; after = after })) None) ≡ xs ++ y ∷ []
  unpaired e true = refl
  unpaired e false = ap (with_composite xs y (record { before = before; starter = s; after = after })) e

  pub composed_with_unpaired : pair s y ≡ None → composed_with class pair xs y ≡ xs ++ y ∷ []
  composed_with_unpaired e = ap (with_point pair xs y) (reached_is (is_blocked class after y) refl) ∙ unpaired e (is_blocked class after y)

pub composites_replace : CompositesReplace
composites_replace class pair xs before after s y q last free e = compose_push class pair xs y ∙ composed_with_replaced class pair (compose class pair xs) before after s y last q free e

pub blocked_stay : BlockedStay
blocked_stay class pair xs before after s y last blocked = compose_push class pair xs y ∙ composed_with_blocked class pair (compose class pair xs) before after s y last blocked

pub unpaired_stay : UnpairedStay
unpaired_stay class pair xs before after s y last e = compose_push class pair xs y ∙ composed_with_unpaired class pair (compose class pair xs) before after s y last e

pub starterless_stay : StarterlessStay
starterless_stay class pair xs y none = compose_push class pair xs y ∙ ap (λ cut. with_point pair (compose class pair xs) y (where_open class y cut)) (no_last_starter class (compose class pair xs) none)

pub nothing_composes : EmptyComposesToEmpty
nothing_composes class pair = refl
