-- A code point that is its own Normalisation Form C is hidden by no other composite.
use Rattle.std.proofs.Common.{◌≡◌, ℕ, Bool, true, false, cond, ◌&&◌, ◌==◌, not, List, [], ◌∷◌, ◌++◌, Option, Some, None, Result, Ok, Err, refl, ap, ◌∙◌, subst, arith, ◌⊎◌, inl, inr}
use Rattle.std.specs.List.{AllByRecursion as Each}
use Rattle.std.proofs.lemmas.Bool.Decides.{nat_tests}
use Rattle.std.proofs.lemmas.Bool.{and_right}
use Rattle.ucd_model.specs.CanonicalOrder.{class_of, order}
use Rattle.ucd_facts.specs.Composites.{is_canonical, pair_of, primary_of}
use Rattle.ucd_model.specs.Composition.{Split, compose, compose_onto, composed_with, is_open, last_starter, where_open, with_composite, with_point}
use Rattle.ucd_facts.specs.Expansion.{counts}
use Rattle.ucd_facts.specs.Facts.{Facts}
use Rattle.ucd_facts.specs.declared.decomposition.Kind.{Kind}
use Rattle.ucd_facts.specs.declared.decomposition.Kind.TheVariants.{Canonical}
use Rattle.ucd_model.specs.Forms.{composed, expansions, in_order, nfc}
use Rattle.ucd_model.specs.Validity.{composite_of, is_other}
use Rattle.ucd_facts.specs.declared.form.Bad.{Bad as Rule}
use Rattle.normalisation.specs.ExpandedLemmas.{Unmapped, Each-append, Each-back, Each-front, Each-order, expansions_full, ok_same}
use Rattle.normalisation.specs.PairLemmas.{pair_joins}
use Rattle.normalisation.specs.StarterLemmas.{CutsAt, last_starter_cuts}
use Rattle.identifier_closure.specs.Composites.{hidden_of}

-- ---- what holds of each member and of each composite holds of each member of the composed list

module _ (P : ℕ → Type 0) (class : ℕ → ℕ) (pair : ℕ → ℕ → Option ℕ) (joins : (s y q : ℕ) → pair s y ≡ Some q → P q) where
  with_pair : (xs : List ℕ) (y : ℕ) (cut : Split) (o : Option ℕ) → pair cut.starter y ≡ o → xs ≡ cut.before ++ cut.starter ∷ cut.after → Each P xs → P y → Each P (with_composite xs y cut o)
  with_pair xs y cut (Some q) e is each here =
      let all : Each P (cut.before ++ cut.starter ∷ cut.after) = subst (Each P) is each in
      Each-append P cut.before (q ∷ cut.after) (Each-front P cut.before (cut.starter ∷ cut.after) all) (joins cut.starter y q e, (Each-back P cut.before (cut.starter ∷ cut.after) all).1)
  with_pair xs y cut None e is each here = Each-append P xs (y ∷ []) each (here, tt)

  with_open : (xs : List ℕ) (y : ℕ) (cut : Split) (t : Bool) → xs ≡ cut.before ++ cut.starter ∷ cut.after → Each P xs → P y → Each P (with_point pair xs y (cond t (Some cut) None))
  with_open xs y cut true is each here = with_pair xs y cut (pair cut.starter y) refl is each here
  with_open xs y cut false is each here = Each-append P xs (y ∷ []) each (here, tt)

  with_cut : (xs : List ℕ) (y : ℕ) (cut : Option Split) → CutsAt class xs cut → Each P xs → P y → Each P (with_point pair xs y (where_open class y cut))
  with_cut xs y (Some cut) cuts each here = with_open xs y cut (is_open class y cut.after) cuts.0 each here
  with_cut xs y None cuts each here = Each-append P xs (y ∷ []) each (here, tt)

  Each-composed : (done rest : List ℕ) → Each P done → Each P rest → Each P (compose_onto class pair done rest)
  Each-composed done [] each left = each
  Each-composed done (y ∷ rest) each left =
      Each-composed (composed_with class pair done y) rest (with_cut done y (last_starter class done) (last_starter_cuts class done) each left.0) left.1

-- ---- the members of a Normalisation Form C

-- it has no mapping that counts, or it is the pair of the two members of its mapping
abbrev Own : (ℕ → Facts) → ℕ → Type 0
Own F x = (Unmapped F false x) ⊎ (composite_of F (F x).mapping ≡ Some x)

each_own : (F : ℕ → Facts) (xs : List ℕ) → Each (Unmapped F false) xs → Each (Own F) xs
each_own F [] each = tt
each_own F (x ∷ xs) each = (inl each.0, each_own F xs each.1)

form_own : (F : ℕ → Facts) (r : Result (List ℕ) Rule) (form : List ℕ) → composed F (in_order F r) ≡ Ok form → ((e : List ℕ) → r ≡ Ok e → Each (Unmapped F false) e) → Each (Own F) form
form_own F (Ok e) form is full =
    subst (Each (Own F)) (ok_same (compose (class_of F) (pair_of F) (order (class_of F) e)) form is)
    (Each-composed (Own F) (class_of F) (pair_of F) (λ s y q pair. inr (ap (composite_of F) (pair_joins F s y q pair).mapping ∙ pair)) [] (order (class_of F) e) tt
    (each_own F (order (class_of F) e) (Each-order (Unmapped F false) (class_of F) e (full e refl))))
form_own F (Err rule) form is full = cc

-- ---- it is not hidden

itself : (c : ℕ) → not (c == c) ≡ false
itself c = grind (arith, nat_tests)

unmapped_other : (F : ℕ → Facts) (c : ℕ) (kind : Kind) (m : List ℕ) (t : Bool) → cond (counts false kind) m [] ≡ [] → ((is_canonical kind && t) && is_other c (composite_of F m)) ≡ false
unmapped_other F c Canonical m t e = and_right t (is_other c (composite_of F m)) (ap (λ (xs : List ℕ). is_other c (composite_of F xs)) e)
unmapped_other F c _ m t e = refl

own_shown : (F : ℕ → Facts) (c : ℕ) → Own F c → hidden_of F c (F c) ≡ false
own_shown F c (inl unmapped) = unmapped_other F c (F c).kind (F c).mapping _ unmapped
own_shown F c (inr own) = and_right (primary_of F (F c)) (is_other c (composite_of F (F c).mapping)) (ap (is_other c) own ∙ itself c)

pub form_shown : (F : ℕ → Facts) (c : ℕ) (form : List ℕ) (G : Facts) → nfc F (c ∷ []) ≡ Ok form → form ≡ c ∷ [] → G ≡ F c → hidden_of F c G ≡ false
form_shown F c form G is alone shown =
    let own : Each (Own F) (c ∷ []) = subst (Each (Own F)) alone (form_own F (expansions F false (c ∷ [])) form is (λ e expands. expansions_full F false (c ∷ []) e expands)) in
    ap (hidden_of F c) shown ∙ own_shown F c own.0
