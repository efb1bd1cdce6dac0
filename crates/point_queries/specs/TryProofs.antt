-- The last starter, and the greatest class behind it, are all that tells which pairs are tried.
-- Tells class cut starter   the starter is that of the cut, and the greatest class tells what is blocked by what stands behind it
-- tries_are, tries_end      the pairs that are tried while a list is composed are those that are tried so
use Rattle.std.proofs.Common.{◌≡◌, ℕ, max, Bool, true, false, cond, ◌&&◌, ◌==◌, nat_lt, List, [], ◌∷◌, ◌++◌, Option, Some, None, ◌≤◌, length, drop, append-nil, refl, sym, ap, ◌∙◌, subst, arith, option_map}
use Rattle.std.specs.Prelude.{⊤}
use Rattle.std.specs.List.{list_all}
use Rattle.std.proofs.Math.ListN.{drop_of_length-le}
use Rattle.std.proofs.lemmas.Bool.Decides.{nat_tests}
use Rattle.std.proofs.Math.Bool.{and_assoc}
use Rattle.std.proofs.lemmas.Bool.{eqb-true, eqb-false}
use Rattle.ucd_model.specs.CanonicalOrder.{class_of}
use Rattle.ucd_facts.specs.Composites.{pair_of}
use Rattle.ucd_model.specs.Composition.{Split, last_starter, is_open, where_open, reached, with_composite, with_point, composed_with}
use Rattle.ucd_facts.specs.Facts.{Facts}
use Rattle.ucd_facts.specs.declared.query.Query.{Query}
use Rattle.ucd_facts.specs.declared.query.Query.TheVariants.{Pair}
use Rattle.normalisation.specs.PairLemmas.{pair_joins}
use Rattle.normalisation.specs.StarterLemmas.{CutsAt, push_after, last_starter_cuts, last_starter_at, last_starter_push}
use Rattle.query_laws.specs.Questions.{tried_at, tries_onto, tries}
use Rattle.point_queries.specs.Tries.{reached_point, tried_by, replaced, taken, next_starter, tries_from}
use Rattle.normalisation.specs.SoFar.{passes, highest_with, raised, starter_behind}
use Rattle.normalisation.specs.declared.starter.Starter.{Starter}

abbrev pub Tells : (ℕ → ℕ) → Option Split → Option (Starter ℕ) → Type 0
Tells class (Some cut) (Some starter) = (starter.which ≡ cut.starter) × ((z : ℕ) → is_open class z cut.after ≡ passes starter.highest (class z))
Tells class None None = ⊤
Tells class _ _ = ⊥

-- ---- the greatest class

below_greater : (m k n : ℕ) → (nat_lt m n && (nat_lt k n && true)) ≡ nat_lt (max m k) n
below_greater m k n = grind (arith, nat_tests)

one_more : (highest : Option ℕ) (k n : ℕ) → (passes highest n && (nat_lt k n && true)) ≡ passes (Some (highest_with highest k)) n
one_more (Some m) k n = below_greater m k n
one_more None k n = grind (arith, nat_tests)

all_push : (p : ℕ → Bool) (xs : List ℕ) (y : ℕ) → list_all p (xs ++ y ∷ []) ≡ (list_all p xs && (p y && true))
all_push p [] y = refl
all_push p (x ∷ xs) y = ap (λ b. p x && b) (all_push p xs y) ∙ sym (and_assoc (p x) (list_all p xs) (p y && true))

module _ (class : ℕ → ℕ) (pair : ℕ → ℕ → Option ℕ) (starts : (s y q : ℕ) → pair s y ≡ Some q → class q ≡ 0) where
  -- ---- one more point that stays

  raised_tells : (y : ℕ) (cut : Option Split) (starter : Option (Starter ℕ)) → Tells class cut starter → Tells class (option_map (push_after y) cut) (raised starter (class y))
  raised_tells y (Some cut) (Some starter) t = (t.0, λ z. all_push (λ x. nat_lt (class x) (class z)) cut.after y ∙ ap (λ b. b && (nat_lt (class y) (class z) && true)) (t.1 z) ∙ one_more starter.highest (class y) (class z))
  raised_tells y None None t = tt
  raised_tells y (Some cut) None t = absurd t
  raised_tells y None (Some starter) t = absurd t

  staying_if : (done : List ℕ) (y : ℕ) (starter : Option (Starter ℕ)) → Tells class (last_starter class done) starter → (b : Bool) → (class y == 0) ≡ b
      → Tells class (last_starter class (done ++ y ∷ [])) (cond b (Some (record { which = y; highest = None })) (raised starter (class y)))
  staying_if done y starter t true e = subst (λ cut. Tells class cut (Some (record { which = y; highest = None }))) (sym (last_starter_at class done [] y (eqb-true (class y) 0 e) refl)) (refl, λ z. refl)
  staying_if done y starter t false e = subst (λ cut. Tells class cut (raised starter (class y))) (sym (last_starter_push class done y (eqb-false (class y) 0 e))) (raised_tells y (last_starter class done) starter t)

  stays : (done : List ℕ) (y : ℕ) (starter : Option (Starter ℕ)) → Tells class (last_starter class done) starter → Tells class (last_starter class (done ++ y ∷ [])) (starter_behind y starter (class y))
  stays done y starter t = staying_if done y starter t (class y == 0) refl

  -- ---- one more point

  record Step (done : List ℕ) (y : ℕ) (starter : Option (Starter ℕ)) : Type 0 where
    tried : tried_at (reached class done y) y ≡ tried_by (reached_point starter (class y)) y
    tells : Tells class (last_starter class (composed_with class pair done y)) (next_starter class pair starter y)

  composite_tells : (done : List ℕ) (y : ℕ) (cut : Split) (starter : Starter ℕ) → last_starter class done ≡ Some cut → Tells class (Some cut) (Some starter) → (r : Option ℕ) → pair cut.starter y ≡ r
      → Tells class (last_starter class (with_composite done y cut r)) (replaced (Some starter) y (class y) r)
  composite_tells done y cut starter e t (Some q) made =
      let cuts = subst (CutsAt class done) e (last_starter_cuts class done) in
      subst (λ other. Tells class other (Some (record { which = q; highest = starter.highest }))) (sym (last_starter_at class cut.before cut.after q (starts cut.starter y q made) cuts.2)) (refl, t.1)
  composite_tells done y cut starter e t None made = stays done y (Some starter) (subst (λ other. Tells class other (Some starter)) (sym e) t)

  -- where the kept starter is reached or not, as it is of the cut
  reached_step : (done : List ℕ) (y : ℕ) (cut : Split) (starter : Starter ℕ) → last_starter class done ≡ Some cut → Tells class (Some cut) (Some starter) → (b : Bool) → is_open class y cut.after ≡ b → Step done y (Some starter)
  reached_step done y cut starter e t true free =
      let reach : reached class done y ≡ Some cut = ap (where_open class y) e ∙ ap (λ b. cond b (Some cut) None) free in
      let kept : reached_point (Some starter) (class y) ≡ Some starter.which = ap (λ b. cond b (Some starter.which) None) (sym (t.1 y) ∙ free) in
      record {
        tried = ap (λ r. tried_at r y) reach ∙ ap (λ (s : ℕ). Pair s y ∷ []) (sym t.0) ∙ ap (λ r. tried_by r y) (sym kept);
        tells = subst (λ r. Tells class (last_starter class (with_point pair done y r)) (next_starter class pair (Some starter) y)) (sym reach)
            (subst (λ r. Tells class (last_starter class (with_composite done y cut (pair cut.starter y))) (taken pair (Some starter) y (class y) r)) (sym kept)
            (subst (λ s. Tells class (last_starter class (with_composite done y cut (pair cut.starter y))) (replaced (Some starter) y (class y) (pair s y))) (sym t.0)
            (composite_tells done y cut starter e t (pair cut.starter y) refl)));
      }
  reached_step done y cut starter e t false free =
      let reach : reached class done y ≡ None = ap (where_open class y) e ∙ ap (λ b. cond b (Some cut) None) free in
      let kept : reached_point (Some starter) (class y) ≡ None = ap (λ b. cond b (Some starter.which) None) (sym (t.1 y) ∙ free) in
      record {
        tried = ap (λ r. tried_at r y) reach ∙ ap (λ r. tried_by r y) (sym kept);
        tells = subst (λ r. Tells class (last_starter class (with_point pair done y r)) (next_starter class pair (Some starter) y)) (sym reach)
            (subst (λ r. Tells class (last_starter class (done ++ y ∷ [])) (taken pair (Some starter) y (class y) r)) (sym kept)
            (stays done y (Some starter) (subst (λ other. Tells class other (Some starter)) (sym e) t)));
      }

  step : (done : List ℕ) (y : ℕ) (cut : Option Split) (starter : Option (Starter ℕ)) → last_starter class done ≡ cut → Tells class cut starter → Step done y starter
  step done y (Some cut) (Some starter) e t = reached_step done y cut starter e t (is_open class y cut.after) refl
  step done y None None e t =
      let reach : reached class done y ≡ None = ap (where_open class y) e in
      record {
        tried = ap (λ r. tried_at r y) reach;
        tells = subst (λ r. Tells class (last_starter class (with_point pair done y r)) (starter_behind y None (class y))) (sym reach) (stays done y None (subst (λ other. Tells class other None) (sym e) tt));
      }
  step done y (Some cut) None e t = absurd t
  step done y None (Some starter) e t = absurd t

  tries_same : (done rest : List ℕ) (starter : Option (Starter ℕ)) → Tells class (last_starter class done) starter → tries_onto class pair done rest ≡ tries_from class pair starter rest
  tries_same done [] starter t = refl
  tries_same done (y ∷ rest) starter t =
      let here = step done y (last_starter class done) starter refl t in
      ap (λ q. q ++ tries_onto class pair (composed_with class pair done y) rest) here.tried
      ∙ ap (λ q. tried_by (reached_point starter (class y)) y ++ q) (tries_same (composed_with class pair done y) rest (next_starter class pair starter y) here.tells)

pub tries_are : (F : ℕ → Facts) (xs : List ℕ) → tries_from (class_of F) (pair_of F) None xs ≡ tries (class_of F) (pair_of F) xs
tries_are F xs = sym (tries_same (class_of F) (pair_of F) (λ s y q made. (pair_joins F s y q made).class) [] xs None tt)

pub tries_end : (F : ℕ → Facts) (xs : List ℕ) (i : ℕ) (starter : Option (Starter ℕ)) (old now : List Query) → length xs ≤ i
    → now ++ tries_from (class_of F) (pair_of F) starter (drop i xs) ≡ old ++ tries_from (class_of F) (pair_of F) None xs → now ≡ old ++ tries (class_of F) (pair_of F) xs
tries_end F xs i starter old now end all =
    sym (append-nil now) ∙ ap (λ ys. now ++ tries_from (class_of F) (pair_of F) starter ys) (sym (drop_of_length-le xs end)) ∙ all ∙ ap (λ q. old ++ q) (tries_are F xs)
