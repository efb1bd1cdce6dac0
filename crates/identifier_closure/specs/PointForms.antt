-- The forms of a code point alone, as far as its record follows from them.
-- expansion_rule F c           the first rule that the expansions of c break: V2, then V3; None where they break none
-- HaveForms F c nfd nfc nfkc   the forms of c alone are these lists
-- AreChanges F s t             t says which mappings change the list s
-- TellForms F c t n k          t says which mappings change the NFD of c, and its NFC and NFKC are the lists n and k
-- form_kc forms                the NFKC that is kept; if none is kept apart, the NFC
-- composed_form F s            the list s in canonical order, composed
-- compat_of both               the compatibility expansion that is kept; if none is kept apart, the canonical one
-- ExpandTo F c p q             the canonical expansion of c is p, the compatibility expansion q, and they break no rule
-- ExpansionsAnswer F c r       r is both expansions of c, or in their place the first rule that they break; no claim if memory
--                              ran out
-- StopsBy F c stop             the stop is the first rule that the expansions of c break; no claim if memory ran out
-- FormsAnswer F c r            r is the forms of c alone, or in their place that rule; no claim if memory ran out
use Rattle.std.specs.Prelude.{◌≡◌, ℕ, true, false, List, [], ◌∷◌, Option, Some, None, unwrap_or, Result, Ok, Err, if◌then◌else◌, ⊤}
use Rattle.ucd_model.specs.CanonicalOrder.{class_of, order}
use Rattle.ucd_model.specs.Casing.{lowers, uppers, titles, folds, casemaps, changes_when}
use Rattle.ucd_facts.specs.Composites.{pair_of}
use Rattle.ucd_model.specs.Composition.{compose}
use Rattle.ucd_facts.specs.Expansion.{expansion}
use Rattle.ucd_facts.specs.Facts.{Facts}
use Rattle.ucd_model.specs.Forms.{nfd, nfc, nfkc}
use Rattle.ucd_model.specs.Validity.{is_endless, is_too_long}
use Rattle.ucd_facts.specs.declared.form.Bad.{Bad as Rule}
use Rattle.ucd_facts.specs.declared.form.Bad.TheVariants.{V2, V3}
use Rattle.ucd_facts.specs.declared.form.FormStop.{FormStop}
use Rattle.ucd_facts.specs.declared.form.FormStop.TheVariants.{Bad, Memory}
use Rattle.case_derivation.specs.declared.changes.Changes.{Changes}
use Rattle.identifier_closure.specs.declared.point_forms.Expansions.{Expansions}
use Rattle.identifier_closure.specs.declared.point_forms.Forms.{Forms}

abbrev pub expansion_rule : (ℕ → Facts) → ℕ → Option Rule
expansion_rule F c = if is_endless F c then Some V2 else (if is_too_long F c then Some V3 else None)

pub record HaveForms (F : ℕ → Facts) (c : ℕ) (decomposed composed compat : List ℕ) : Type 0 where
  pub nfd : nfd F (c ∷ []) ≡ Ok decomposed
  pub nfc : nfc F (c ∷ []) ≡ Ok composed
  pub nfkc : nfkc F (c ∷ []) ≡ Ok compat

pub record AreChanges (F : ℕ → Facts) (s : List ℕ) (t : Changes) : Type 0 where
  pub lowered : t.lowered ≡ lowers F s
  pub uppered : t.uppered ≡ uppers F s
  pub titled : t.titled ≡ titles F s
  pub folded : t.folded ≡ folds F s
  pub mapped : t.mapped ≡ casemaps F s

pub record TellForms (F : ℕ → Facts) (c : ℕ) (t : Changes) (composed compat : List ℕ) : Type 0 where
  pub lowered : t.lowered ≡ changes_when lowers F c
  pub uppered : t.uppered ≡ changes_when uppers F c
  pub titled : t.titled ≡ changes_when titles F c
  pub folded : t.folded ≡ changes_when folds F c
  pub mapped : t.mapped ≡ changes_when casemaps F c
  pub nfc : nfc F (c ∷ []) ≡ Ok composed
  pub nfkc : nfkc F (c ∷ []) ≡ Ok compat

abbrev pub form_kc : Forms → List ℕ
form_kc forms = unwrap_or forms.nfkc forms.nfc

abbrev pub composed_form : (ℕ → Facts) → List ℕ → List ℕ
composed_form F s = compose (class_of F) (pair_of F) (order (class_of F) s)

abbrev pub compat_of : Expansions → List ℕ
compat_of both = unwrap_or both.compat both.canonical

pub record ExpandTo (F : ℕ → Facts) (c : ℕ) (p q : List ℕ) : Type 0 where
  pub canonical : expansion F false c ≡ Ok p
  pub compat : expansion F true c ≡ Ok q
  pub rule : expansion_rule F c ≡ None

abbrev pub ExpansionsAnswer : (ℕ → Facts) → ℕ → Result Expansions FormStop → Type 0
ExpansionsAnswer F c (Ok both) = ExpandTo F c both.canonical (compat_of both)
ExpansionsAnswer F c (Err (Bad rule)) = expansion_rule F c ≡ Some rule
ExpansionsAnswer F c (Err Memory) = ⊤

abbrev pub StopsBy : (ℕ → Facts) → ℕ → FormStop → Type 0
StopsBy F c (Bad rule) = expansion_rule F c ≡ Some rule
StopsBy F c Memory = ⊤

abbrev pub FormsAnswer : (ℕ → Facts) → ℕ → Result Forms FormStop → Type 0
FormsAnswer F c (Ok forms) = (expansion_rule F c ≡ None) × TellForms F c forms.changes forms.nfc (form_kc forms)
FormsAnswer F c (Err (Bad rule)) = expansion_rule F c ≡ Some rule
FormsAnswer F c (Err Memory) = ⊤
