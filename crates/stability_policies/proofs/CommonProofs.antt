-- What two releases have in common where the report lists nothing of some policies.
use Rattle.std.proofs.Common.{◌≡◌, ℕ, true, List, sym, subst, ◌∙◌}
use Rattle.release_rows.specs.Releases.{ReleaseItems, rows_now}
use Rattle.ucd_facts.specs.Facts.{Facts, facts}
use Rattle.ucd_facts.specs.declared.form.Form.{Form}
use Rattle.normalisation.specs.FormValues.{AreForms, HasList, form_of}
use Rattle.normalisation.specs.declared.all_forms.Forms.{Forms}
use Rattle.stability_policies.specs.CommonForms.{AllAssigned, KeepsForms, ListsNone}
use Rattle.stability_policies.specs.Policies.{caseless}
use Rattle.stability_policies.specs.Reports.{report}
use Rattle.stability_policies.specs.StableForms.{SameForms}
use Rattle.stability_policies.specs.Views.{IsValid}
use Rattle.stability_policies.specs.declared.breaks.Break.{Break}
use Rattle.stability_policies.specs.declared.policy.Policy.TheVariants.{P10}
use Rattle.stability_policies.proofs.ListedProofs.{caseless_given, each_old, folds_alike, form_given, old_expansions, stays_normal}
use Rattle.stability_policies.proofs.StableProofs.{caseless_stays, forms_stay}

pub forms_new : (O N : ℕ → Facts) (s : List ℕ) (forms : Forms) → SameForms O N s → AreForms O s forms → AreForms N s forms
forms_new O N s forms same are = record {
  nfd = sym same.nfd ∙ are.nfd;
  nfc = sym same.nfc ∙ are.nfc;
  nfkd = sym same.nfkd ∙ are.nfkd;
  nfkc = sym same.nfkc ∙ are.nfkc;
}

module _ (O N : ℕ → Facts) (old new : ReleaseItems) (before : O ≡ facts (rows_now old)) (after : N ≡ facts (rows_now new)) (valid : IsValid old) (s : List ℕ) (assigned : AllAssigned O s) where
  given : AllAssigned (facts (rows_now old)) s
  given = subst (λ (F : ℕ → Facts). AllAssigned F s) before assigned

  pub old_form : (form : Form) → HasList (form_of O form s)
  old_form form = subst (λ (F : ℕ → Facts). HasList (form_of F form s)) (sym before) (form_given old new valid form s (each_old old new s given))

  pub old_folding : HasList (caseless O s)
  old_folding = subst (λ (F : ℕ → Facts). HasList (caseless F s)) (sym before) (caseless_given old new valid s (each_old old new s given))

  module _ (breaks : List Break) (is : breaks ≡ report old new) (keeps : KeepsForms breaks) where
    pub same_forms : SameForms O N s
    same_forms =
        let same : SameForms (facts (rows_now old)) (facts (rows_now new)) s = forms_stay (facts (rows_now old)) (facts (rows_now new)) (stays_normal old new valid (subst KeepsForms is keeps)) s (each_old old new s given) in
        subst (λ (F : ℕ → Facts). SameForms F N s) (sym before) (subst (λ (G : ℕ → Facts). SameForms (facts (rows_now old)) G s) (sym after) same)

    pub same_folding : ListsNone P10 breaks → caseless O s ≡ caseless N s
    same_folding none =
        let same : caseless (facts (rows_now old)) s ≡ caseless (facts (rows_now new)) s =
        caseless_stays (facts (rows_now old)) (facts (rows_now new)) (stays_normal old new valid (subst KeepsForms is keeps)) (old_expansions old new true valid) (folds_alike old new (subst (ListsNone P10) is none)) s (each_old old new s given) in
        subst (λ (F : ℕ → Facts). caseless F s ≡ caseless N s) (sym before) (subst (λ (G : ℕ → Facts). caseless (facts (rows_now old)) s ≡ caseless G s) (sym after) same)
