-- Over facts of valid rows each form is there.
use Rattle.std.proofs.Common.{◌≡◌, ℕ, ◌<◌, ◌≤◌, Bool, List, [], ◌∷◌, refl, ap, ◌∙◌, ◌⊎◌, inl, inr}
use Rattle.std.specs.List.{AllByRecursion as Each}
use Rattle.std.proofs.lemmas.Bool.{cases_lt}
use Rattle.ucd_points.specs.Limits.{point_count}
use Rattle.ucd_facts.specs.Facts.{Facts, unassigned}
use Rattle.ucd_facts.specs.FactsLemmas.{facts_outside}
use Rattle.ucd_model.specs.ValidityProofs.{valid_expands, valid_is_unbroken}
use Rattle.ucd_facts.specs.declared.form.Form.{Form}
use Rattle.normalisation.specs.FormLaws.{HasExpansion}
use Rattle.normalisation.specs.FormLemmas.{expansion_alone}
use Rattle.normalisation.specs.FormValueProofs.{forms_given}
use Rattle.normalisation.specs.FormValues.{HasList, form_of}
use Rattle.norm_conformance.specs.ValidFacts.{AreOfValidRows}

module _ (F : ℕ → Facts) (valid : AreOfValidRows F) where
  outside : (compat : Bool) (c : ℕ) → F c ≡ unassigned c → HasExpansion F compat c
  outside compat c is = (c ∷ [], expansion_alone F compat c (rw is refl))

  expands : (compat : Bool) (c : ℕ) → HasExpansion F compat c
  expands compat c = by_place (cases_lt c point_count) where
    by_place : (c < point_count) ⊎ (point_count ≤ c) → HasExpansion F compat c
    by_place (inl lt) = valid_expands F compat ((valid_is_unbroken F).1 valid.valid) c lt
    by_place (inr le) = outside compat c (ap (λ (G : ℕ → Facts). G c) valid.facts_are ∙ facts_outside valid.rows c le)

  each_expands : (compat : Bool) (s : List ℕ) → Each (HasExpansion F compat) s
  each_expands compat [] = tt
  each_expands compat (c ∷ s) = (expands compat c, each_expands compat s)

  pub valid_forms : (s : List ℕ) (form : Form) → HasList (form_of F form s)
  valid_forms s form = forms_given F s (λ compat. each_expands compat s) form
