-- Proofs on the four forms together.
-- forms_are_together, plain_forms   the laws of the same names
-- four_have_forms                   where each form is there, the four of them are together
-- forms_given                       where each member has its expansions, each form is there
use Rattle.std.proofs.Common.{◌≡◌, ℕ, Bool, true, false, List, [], ◌∷◌, ◌++◌, Result, Ok, Err, refl, ap, ◌∙◌, arith}
use Rattle.std.specs.List.{AllByRecursion as Each}
use Rattle.ucd_model.specs.CanonicalOrder.{class_of}
use Rattle.ucd_facts.specs.Facts.{Facts}
use Rattle.ucd_facts.specs.declared.decomposition.Kind.TheVariants.{Plain}
use Rattle.ucd_model.specs.Forms.{appended, composed, decomposed, expansions, in_order, nfd, nfc, nfkd, nfkc}
use Rattle.ucd_facts.specs.declared.form.Bad.{Bad as Rule}
use Rattle.ucd_facts.specs.declared.form.Form.{Form}
use Rattle.ucd_facts.specs.declared.form.Form.TheVariants.{Nfd, Nfc, Nfkd, Nfkc}
use Rattle.normalisation.specs.ExpandedLemmas.{Unmapped, expansions_unmapped}
use Rattle.normalisation.specs.FormLaws.{FormsAreTogether, HasExpansion, PlainForms}
use Rattle.normalisation.specs.FormValues.{HasList, all_four, form_of, four_forms}
use Rattle.normalisation.specs.OrderLemmas.{order-ordered}
use Rattle.normalisation.specs.declared.all_forms.Forms.{Forms}

-- ---- together

abbrev AllThere : Result (List ℕ) Rule → Result (List ℕ) Rule → Result (List ℕ) Rule → Result (List ℕ) Rule → Forms → Type 0
AllThere d c kd kc forms = (d ≡ Ok forms.nfd) × (c ≡ Ok forms.nfc) × (kd ≡ Ok forms.nfkd) × (kc ≡ Ok forms.nfkc)

all_there : (d c kd kc : Result (List ℕ) Rule) (forms : Forms) → all_four d c kd kc ≡ Ok forms → AllThere d c kd kc forms
all_there (Ok d) (Ok c) (Ok kd) (Ok kc) forms e =
    let same : record { nfd = d; nfc = c; nfkd = kd; nfkc = kc } ≡ forms = cc in
    (ap (λ (f : Forms). Ok f.nfd) same, ap (λ (f : Forms). Ok f.nfc) same, ap (λ (f : Forms). Ok f.nfkd) same, ap (λ (f : Forms). Ok f.nfkc) same)
all_there (Ok d) (Ok c) (Ok kd) (Err rule) forms e = absurd cc
all_there (Ok d) (Ok c) (Err rule) kc forms e = absurd cc
all_there (Ok d) (Err rule) kd kc forms e = absurd cc
all_there (Err rule) c kd kc forms e = absurd cc

are_together : (d c kd kc : Result (List ℕ) Rule) (forms : Forms) → AllThere d c kd kc forms → all_four d c kd kc ≡ Ok forms
are_together d c kd kc forms all = rw (all.0, all.1, all.2, all.3) refl

pub forms_are_together : FormsAreTogether
forms_are_together F s forms = (
  (λ e. let all = all_there (nfd F s) (nfc F s) (nfkd F s) (nfkc F s) forms e in record { nfd = all.0; nfc = all.1; nfkd = all.2; nfkc = all.3 }),
  (λ are. are_together (nfd F s) (nfc F s) (nfkd F s) (nfkc F s) forms (are.nfd, are.nfc, are.nfkd, are.nfkc)),
)

pub four_have_forms : (F : ℕ → Facts) (s : List ℕ) → ((form : Form) → HasList (form_of F form s)) → (forms : Forms) × (four_forms F s ≡ Ok forms)
four_have_forms F s has =
    let forms : Forms = record { nfd = (has Nfd).0; nfc = (has Nfc).0; nfkd = (has Nfkd).0; nfkc = (has Nfkc).0 } in
    (forms, are_together (nfd F s) (nfc F s) (nfkd F s) (nfkc F s) forms ((has Nfd).1, (has Nfc).1, (has Nfkd).1, (has Nfkc).1))

-- ---- there, where each member has its expansions

expansions_given : (F : ℕ → Facts) (compat : Bool) (s : List ℕ) → Each (HasExpansion F compat) s → HasList (expansions F compat s)
expansions_given F compat [] has = ([], refl)
expansions_given F compat (c ∷ s) has =
    let more = expansions_given F compat s has.1 in
    (has.0.0 ++ more.0, ap (λ r. appended r (expansions F compat s)) has.0.1 ∙ ap (appended (Ok has.0.0)) more.1)

ordered_given : (F : ℕ → Facts) (r : Result (List ℕ) Rule) → HasList r → HasList (in_order F r)
ordered_given F (Ok xs) has = (_, refl)
ordered_given F (Err rule) has = absurd (let h = has.1 in cc)

composed_given : (F : ℕ → Facts) (r : Result (List ℕ) Rule) → HasList r → HasList (composed F r)
composed_given F (Ok xs) has = (_, refl)
composed_given F (Err rule) has = absurd (let h = has.1 in cc)

module _ (F : ℕ → Facts) (s : List ℕ) (has : (compat : Bool) → Each (HasExpansion F compat) s) where
  decomposed_given : (compat : Bool) → HasList (decomposed F compat s)
  decomposed_given compat = ordered_given F (expansions F compat s) (expansions_given F compat s (has compat))

  pub forms_given : (form : Form) → HasList (form_of F form s)
  forms_given Nfd = decomposed_given false
  forms_given Nfc = composed_given F (decomposed F false s) (decomposed_given false)
  forms_given Nfkd = decomposed_given true
  forms_given Nfkc = composed_given F (decomposed F true s) (decomposed_given true)

-- ---- a code point without a mapping

plain_decomposed : (F : ℕ → Facts) (compat : Bool) (c : ℕ) → (F c).kind ≡ Plain → decomposed F compat (c ∷ []) ≡ Ok (c ∷ [])
plain_decomposed F compat c plain =
    let unmapped : Unmapped F compat c = rw plain refl in
    ap (in_order F) (expansions_unmapped F compat (c ∷ []) (unmapped, tt)) ∙ ap (λ zs. Ok zs) (order-ordered (class_of F) (c ∷ []) ((λ some. omega arith), tt))

pub plain_forms : PlainForms
plain_forms F c plain Nfd = plain_decomposed F false c plain
plain_forms F c plain Nfkd = plain_decomposed F true c plain
plain_forms F c plain Nfc = ap (composed F) (plain_decomposed F false c plain)
plain_forms F c plain Nfkc = ap (composed F) (plain_decomposed F true c plain)
