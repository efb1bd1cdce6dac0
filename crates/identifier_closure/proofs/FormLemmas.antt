-- The forms of a code point alone, from its expansions.
use Rattle.std.proofs.Common.{◌≡◌, ◌≢◌, ℕ, Bool, true, false, cond, ◌||◌, nat_lt, List, [], ◌∷◌, length, Option, Some, None, unwrap_or, Ok, Err, if◌then◌else◌, refl, sym, ap, ◌∙◌, ◌⊎◌, inl, inr, option_map, append-nil}
use Rattle.ucd_model.specs.CanonicalOrder.{class_of, order}
use Rattle.ucd_facts.specs.Composites.{pair_of}
use Rattle.ucd_model.specs.Composition.{compose}
use Rattle.ucd_facts.specs.Expansion.{full, judged, expansion}
use Rattle.ucd_facts.specs.Facts.{Facts}
use Rattle.ucd_model.specs.Forms.{appended, in_order, composed, decomposed, nfd as form_d}
use Rattle.ucd_model.specs.Validity.{is_none, is_long}
use Rattle.ucd_facts.specs.declared.form.Bad.{Bad as Rule}
use Rattle.ucd_facts.specs.declared.form.Bad.TheVariants.{V2, V3}
use Rattle.ucd_model.specs.Casing.{lowers, uppers, titles, folds, casemaps, where_form}
use Rattle.case_derivation.specs.declared.changes.Changes.{Changes}
use Rattle.identifier_closure.specs.PointForms.{expansion_rule, AreChanges, HaveForms, TellForms, composed_form, ExpandTo}

-- ---- the rule of two expansions

abbrev pub rule_of : Option (List ℕ) → Option (List ℕ) → Option Rule
rule_of a b = if is_none a || is_none b then Some V2 else (if is_long a || is_long b then Some V3 else None)

abbrev IsSound : Option (List ℕ) → Type 0
IsSound a = (is_none a ≡ false) × (is_long a ≡ false)

sound_if : (t : Bool) (points p : List ℕ) → cond t (Err V3) (Ok points) ≡ Ok p → t ≡ false
sound_if true points p e = cc
sound_if false points p e = refl

sound : (a : Option (List ℕ)) (p : List ℕ) → judged a ≡ Ok p → IsSound a
sound None p e = cc
sound (Some points) p e = (refl, sound_if (nat_lt 64 (length points)) points p e)

-- what is wrong with an expansion without a value
abbrev Faulty : Option (List ℕ) → Rule → Type 0
Faulty a rule = ((rule ≡ V2) × (is_none a ≡ true)) ⊎ ((rule ≡ V3) × (is_none a ≡ false) × (is_long a ≡ true))

faulty_if : (t : Bool) (points : List ℕ) (rule : Rule) → cond t (Err V3) (Ok points) ≡ Err rule → (rule ≡ V3) × (t ≡ true)
faulty_if true points rule e = let same : V3 ≡ rule = cc in (sym same, refl)
faulty_if false points rule e = cc

faulty : (a : Option (List ℕ)) (rule : Rule) → judged a ≡ Err rule → Faulty a rule
faulty None rule e = let same : V2 ≡ rule = cc in inl (sym same, refl)
faulty (Some points) rule e = let parts = faulty_if (nat_lt 64 (length points)) points rule e in inr (parts.0, refl, parts.1)

none_of : (a b : Option (List ℕ)) → IsSound a → IsSound b → rule_of a b ≡ None
none_of a b x y = rw (x.0, x.1, y.0, y.1) refl

second_of : (a b : Option (List ℕ)) (rule : Rule) → IsSound a → Faulty b rule → rule_of a b ≡ Some rule
second_of a b rule x (inl y) = rw (x.0, y.0, y.1) refl
second_of a b rule x (inr y) = rw (x.0, x.1, y.0, y.1, y.2) refl

pub both_expanded : (F : ℕ → Facts) (c : ℕ) (p q : List ℕ) → expansion F false c ≡ Ok p → expansion F true c ≡ Ok q → ExpandTo F c p q
both_expanded F c p q x y = record { canonical = x; compat = y; rule = none_of (full F false c) (full F true c) (sound (full F false c) p x) (sound (full F true c) q y) }

pub compat_rule : (F : ℕ → Facts) (c : ℕ) (p : List ℕ) (rule : Rule) → expansion F false c ≡ Ok p → expansion F true c ≡ Err rule → expansion_rule F c ≡ Some rule
compat_rule F c p rule x y = second_of (full F false c) (full F true c) rule (sound (full F false c) p x) (faulty (full F true c) rule y)

-- ---- the forms

alone : (F : ℕ → Facts) (compat : Bool) (c : ℕ) (p : List ℕ) → expansion F compat c ≡ Ok p → decomposed F compat (c ∷ []) ≡ Ok (order (class_of F) p)
alone F compat c p e = ap (λ r. in_order F (appended r (Ok []))) e ∙ ap (λ zs. Ok (order (class_of F) zs)) (append-nil p)

form_or : (f : List ℕ → List ℕ) (p : List ℕ) (q : Option (List ℕ)) → unwrap_or (option_map f q) (f p) ≡ f (unwrap_or q p)
form_or f p (Some q) = refl
form_or f p None = refl

forms_are : (F : ℕ → Facts) (c : ℕ) (p nfd nfc : List ℕ) (q nfkc : Option (List ℕ)) → ExpandTo F c p (unwrap_or q p) → nfd ≡ order (class_of F) p
    → nfc ≡ compose (class_of F) (pair_of F) nfd → nfkc ≡ option_map (composed_form F) q → HaveForms F c nfd nfc (unwrap_or nfkc nfc)
forms_are F c p nfd nfc q nfkc have d e k =
    let canonical : decomposed F false (c ∷ []) ≡ Ok nfd = alone F false c p have.canonical ∙ ap (λ zs. Ok zs) (sym d) in
    let compat : decomposed F true (c ∷ []) ≡ Ok (order (class_of F) (unwrap_or q p)) = alone F true c (unwrap_or q p) have.compat in
    let first : nfc ≡ composed_form F p = e ∙ ap (compose (class_of F) (pair_of F)) d in
    let kept : unwrap_or nfkc nfc ≡ composed_form F (unwrap_or q p) = ap (λ r. unwrap_or r nfc) k ∙ ap (unwrap_or (option_map (composed_form F) q)) first ∙ form_or (composed_form F) p q in
    record {
      nfd = canonical;
      nfc = ap (composed F) canonical ∙ ap (λ zs. Ok zs) (sym e);
      nfkc = ap (composed F) compat ∙ ap (λ zs. Ok zs) (sym kept);
    }

-- ---- what they tell

pub told_of : (F : ℕ → Facts) (c : ℕ) (t : Changes) (d n k : List ℕ) → HaveForms F c d n k → AreChanges F d t → TellForms F c t n k
told_of F c t d n k forms changes =
    let are : (test : List ℕ → Bool) → test d ≡ where_form test (form_d F (c ∷ [])) = λ test. ap (where_form test) (sym forms.nfd) in
    record {
      lowered = changes.lowered ∙ are (lowers F);
      uppered = changes.uppered ∙ are (uppers F);
      titled = changes.titled ∙ are (titles F);
      folded = changes.folded ∙ are (folds F);
      mapped = changes.mapped ∙ are (casemaps F);
      nfc = forms.nfc;
      nfkc = forms.nfkc;
    }

pub forms_tell : (F : ℕ → Facts) (c : ℕ) (t : Changes) (p nfd nfc : List ℕ) (q nfkc : Option (List ℕ)) → ExpandTo F c p (unwrap_or q p) → nfd ≡ order (class_of F) p
    → nfc ≡ compose (class_of F) (pair_of F) nfd → nfkc ≡ option_map (composed_form F) q
    → t.lowered ≡ lowers F nfd → t.uppered ≡ uppers F nfd → t.titled ≡ titles F nfd → t.folded ≡ folds F nfd → t.mapped ≡ casemaps F nfd → TellForms F c t nfc (unwrap_or nfkc nfc)
forms_tell F c t p nfd nfc q nfkc have d e k lowered uppered titled folded mapped =
    told_of F c t nfd nfc (unwrap_or nfkc nfc) (forms_are F c p nfd nfc q nfkc have d e k) (record { lowered = lowered; uppered = uppered; titled = titled; folded = folded; mapped = mapped })
