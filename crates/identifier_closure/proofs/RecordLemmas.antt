-- The record of a point from what is found of it.
use Rattle.std.proofs.Common.{◌≡◌, ℕ, Bool, true, false, not, List, [], ◌∷◌, Option, Some, None, Result, Ok, Err, if◌then◌else◌, refl, sym, ap, ◌∙◌, bytes_eq}
use Rattle.std.proofs.lemmas.Bool.{or_left, or_right}
use Rattle.std.proofs.lemmas.Slice.Eq.{bytes_eq-Decides}
use Rattle.ucd_model.specs.Casing.{lowers, uppers, titles, folds, casemaps, changes_when}
use Rattle.ucd_facts.specs.Composites.{is_canonical}
use Rattle.ucd_facts.specs.Expansion.{FormAnswers}
use Rattle.ucd_facts.specs.Facts.{Facts, image, is_plain}
use Rattle.ucd_facts.specs.declared.decomposition.Kind.{Kind}
use Rattle.ucd_facts.specs.declared.decomposition.Kind.TheVariants.{Plain, Canonical, Compat}
use Rattle.ucd_facts.specs.declared.image.Image.{Image}
use Rattle.ucd_facts.specs.declared.image.Image.TheVariants.{Same, To}
use Rattle.ucd_model.specs.FoldRounds.{casefold, casefold_image, image_or_rule, image_or_same}
use Rattle.ucd_model.specs.Forms.{nfd, nfkd, composed}
use Rattle.ucd_model.specs.Identifiers.{xid_start, xid_continue}
use Rattle.ucd_model.specs.QuickChecks.{full_exclusion, quick_composed, quick_where, quick, quick_or_yes}
use Rattle.ucd_model.specs.Records.{Record, core_at, changes_image, kept_record, record_at, derived}
use Rattle.ucd_facts.specs.Sets.{has_core}
use Rattle.ucd_facts.specs.Shown.{shown_facts}
use Rattle.ucd_model.specs.Validity.{lacks_a_row, is_unfolded, is_none}
use Rattle.ucd_facts.specs.declared.folding.Folding.{Folding}
use Rattle.ucd_facts.specs.declared.folding.Folding.TheVariants.{Full, Simple}
use Rattle.ucd_facts.specs.declared.form.Bad.{Bad as Rule}
use Rattle.ucd_facts.specs.declared.form.Bad.TheVariants.{V4, V5}
use Rattle.ucd_facts.specs.declared.form.FormStop.{FormStop}
use Rattle.ucd_facts.specs.declared.form.FormStop.TheVariants.{Bad, Memory}
use Rattle.ucd_facts.specs.declared.form.Form.TheVariants.{Nfd, Nfc, Nfkd, Nfkc}
use Rattle.ucd_facts.specs.declared.form.Quick.{Quick}
use Rattle.ucd_facts.specs.declared.form.Quick.TheVariants.{Yes, No}
use Rattle.ucd_facts.specs.declared.property.Core.{Core}
use Rattle.ucd_facts.specs.declared.property.Core.TheVariants.{Math, Alphabetic, Lowercase, Uppercase, Cased, CaseIgnorable, ChangesWhenLowercased, ChangesWhenUppercased, ChangesWhenTitlecased, ChangesWhenCasefolded, ChangesWhenCasemapped, IdStart, IdContinue, XidStart, XidContinue, DefaultIgnorableCodePoint, GraphemeExtend, GraphemeBase, GraphemeLink}
use Rattle.ucd_model.specs.declared.records.Record.{Record as KeptRecord}
use Rattle.ucd_facts.specs.declared.view.FactsRef.{FactsRef}
use Rattle.case_derivation.specs.declared.changes.Changes.{Changes}
use Rattle.identifier_closure.specs.Composites.{hidden_of}
use Rattle.identifier_closure.specs.CoreSets.{core_given}
use Rattle.identifier_closure.specs.Derived.{RecordAnswers, CasefoldsAnswer}
use Rattle.quick_checks.specs.Checks.{quick_decomposed}
use Rattle.identifier_closure.specs.PlainProofs.{folded_if}
use Rattle.identifier_closure.specs.PointForms.{expansion_rule, TellForms, FormsAnswer}
use Rattle.identifier_closure.specs.RuleProofs.{by_expansion, by_composite, by_folding, by_none}
use Rattle.identifier_closure.specs.declared.predicates.ToldByForms.{ToldByForms}

-- ---- the checks

pub same_check : (F : ℕ → Facts) (c : ℕ) (s t : List ℕ) → bytes_eq s t ≡ true → quick_composed F c t ≡ quick_composed F c s
same_check F c s t e = ap (quick_composed F c) (sym ((bytes_eq-Decides s t).0 e))

-- ---- the folding

ok_same : (i j : Image) → ◌≡◌ {A = Result Image Rule} (Ok i) (Ok j) → i ≡ j
ok_same i j e = cc

pub both_fold : (F : ℕ → Facts) (c : ℕ) (i j : Image) → casefold_image Full F c ≡ Ok i → casefold_image Simple F c ≡ Ok j → is_unfolded F c ≡ false
both_fold F c i j e d = rw (folded_if c (casefold Full F c) i e, folded_if c (casefold Simple F c) j d) refl

unfolded_if : (c : ℕ) (r : Option (List ℕ)) (rule : Rule) → image_or_rule c r ≡ Err rule → is_none r ≡ true
unfolded_if c (Some s) rule e = cc
unfolded_if c None rule e = refl

either : (folding : Folding) (F : ℕ → Facts) (c : ℕ) → is_none (casefold folding F c) ≡ true → is_unfolded F c ≡ true
either Full F c e = or_left (is_none (casefold Full F c)) (is_none (casefold Simple F c)) e
either Simple F c e = or_right (is_none (casefold Full F c)) (is_none (casefold Simple F c)) e

only_V5 : (c : ℕ) (r : Option (List ℕ)) (rule : Rule) → image_or_rule c r ≡ Err rule → rule ≡ V5
only_V5 c (Some s) rule e = cc
only_V5 c None rule e = cc

-- a rule that stands in the place of an image by either folding
pub casefold_stop : (folding : Folding) (F : ℕ → Facts) (c : ℕ) (stop : FormStop) → FormAnswers {A = Image} (Err stop) (casefold_image folding F c) → CasefoldsAnswer F c (Err stop)
casefold_stop folding F c (Bad rule) e = (only_V5 c (casefold folding F c) rule e, either folding F c (unfolded_if c (casefold folding F c) rule e))
casefold_stop folding F c Memory e = tt

-- ---- forms

pub stopped : (F : ℕ → Facts) (c : ℕ) (stop : FormStop) → lacks_a_row F c ≡ false → FormsAnswer F c (Err stop) → RecordAnswers (Err stop) (derived F c)
stopped F c (Bad rule) lacks answer = by_expansion F c rule lacks answer
stopped F c Memory lacks answer = tt

-- ---- quick checks

kind_of : (kind : Kind) → quick_decomposed kind false ≡ (if is_canonical kind then No else Yes)
kind_of Plain = refl
kind_of Canonical = refl
kind_of (Compat tag) = refl

compat_kind_of : (kind : Kind) → quick_decomposed kind true ≡ (if is_plain kind then Yes else No)
compat_kind_of Plain = refl
compat_kind_of Canonical = refl
compat_kind_of (Compat tag) = refl

-- a check that does not look at the form, where there is one
given : (F : ℕ → Facts) (r : Result (List ℕ) Rule) (u : List ℕ) (value : Quick) → composed F r ≡ Ok u → quick_or_yes (quick_where (λ _. value) r) ≡ value
given F (Ok t) u value e = refl
given F (Err rule) u value e = cc

module _ (F : ℕ → Facts) (c : ℕ) (t : Changes) (n k : List ℕ) (forms : TellForms F c t n k) where
  nfd_check : quick_decomposed (F c).kind false ≡ quick_or_yes (quick F Nfd c)
  nfd_check = kind_of (F c).kind ∙ sym (given F (nfd F (c ∷ [])) n (if is_canonical (F c).kind then No else Yes) forms.nfc)

  nfkd_check : quick_decomposed (F c).kind true ≡ quick_or_yes (quick F Nfkd c)
  nfkd_check = compat_kind_of (F c).kind ∙ sym (given F (nfkd F (c ∷ [])) k (if is_plain (F c).kind then Yes else No) forms.nfkc)

  nfc_check : quick_composed F c n ≡ quick_or_yes (quick F Nfc c)
  nfc_check = ap (λ r. quick_or_yes (quick_where (quick_composed F c) r)) (sym forms.nfc)

  nfkc_check : quick_composed F c k ≡ quick_or_yes (quick F Nfkc c)
  nfkc_check = ap (λ r. quick_or_yes (quick_where (quick_composed F c) r)) (sym forms.nfkc)

-- ---- the folding changes the point

abbrev pub is_other : Image → Bool
is_other Same = false
is_other (To points) = true

other_if : (t : Bool) (c : ℕ) (s : List ℕ) → bytes_eq s (c ∷ []) ≡ t → is_other (if t then Same else To s) ≡ changes_image c (if t then Same else To s)
other_if true c s e = sym (ap not ((bytes_eq-Decides (c ∷ []) (c ∷ [])).1 refl))
other_if false c s e = sym (ap not e)

other_of : (c : ℕ) (r : Option (List ℕ)) (i : Image) → image_or_rule c r ≡ Ok i → is_other i ≡ changes_image c i
other_of c (Some s) i e =
    let same : image c s ≡ i = ok_same (image c s) i e in
    ap is_other (sym same) ∙ other_if (bytes_eq s (c ∷ [])) c s refl ∙ ap (changes_image c) same
other_of c None i e = cc

-- ---- the record

cores_are : (F : ℕ → Facts) (c : ℕ) (told : ToldByForms) (core : Core) → told.changes.lowered ≡ changes_when lowers F c → told.changes.uppered ≡ changes_when uppers F c
    → told.changes.titled ≡ changes_when titles F c → told.changes.folded ≡ changes_when folds F c → told.changes.mapped ≡ changes_when casemaps F c
    → told.xid_start ≡ xid_start F c → told.xid_continue ≡ xid_continue F c → core_given c (F c) told core ≡ core_at F c core
cores_are F c told Math l u t f m s k = refl
cores_are F c told Alphabetic l u t f m s k = refl
cores_are F c told Lowercase l u t f m s k = refl
cores_are F c told Uppercase l u t f m s k = refl
cores_are F c told Cased l u t f m s k = refl
cores_are F c told CaseIgnorable l u t f m s k = refl
cores_are F c told ChangesWhenLowercased l u t f m s k = l
cores_are F c told ChangesWhenUppercased l u t f m s k = u
cores_are F c told ChangesWhenTitlecased l u t f m s k = t
cores_are F c told ChangesWhenCasefolded l u t f m s k = f
cores_are F c told ChangesWhenCasemapped l u t f m s k = m
cores_are F c told IdStart l u t f m s k = refl
cores_are F c told IdContinue l u t f m s k = refl
cores_are F c told XidStart l u t f m s k = s
cores_are F c told XidContinue l u t f m s k = k
cores_are F c told DefaultIgnorableCodePoint l u t f m s k = refl
cores_are F c told GraphemeExtend l u t f m s k = refl
cores_are F c told GraphemeBase l u t f m s k = refl
cores_are F c told GraphemeLink l u t f m s k = refl

-- what is found of a point of which the facts, the forms and the folding are known
pub record IsTold (F : ℕ → Facts) (c : ℕ) (n k : List ℕ) (kept : KeptRecord) (told : ToldByForms) : Type 0 where
  pub xid_start : told.xid_start ≡ xid_start F c
  pub xid_continue : told.xid_continue ≡ xid_continue F c
  pub exclusion : kept.exclusion ≡ full_exclusion F c
  pub nfd : kept.nfd ≡ quick_decomposed kept.kind false
  pub nfc : kept.nfc ≡ quick_composed F c n
  pub nfkd : kept.nfkd ≡ quick_decomposed kept.kind true
  pub nfkc : kept.nfkc ≡ quick_composed F c k
  pub changes : kept.changes_casefold ≡ is_other kept.casefold

pub record_is : (F : ℕ → Facts) (c : ℕ) (r : FactsRef) (n k : List ℕ) (kept : KeptRecord) (told : ToldByForms) → shown_facts r ≡ F c → TellForms F c told.changes n k
    → casefold_image Full F c ≡ Ok kept.casefold → casefold_image Simple F c ≡ Ok kept.simple_casefold → kept.category ≡ r.category → kept.class ≡ r.class → kept.kind ≡ r.kind
    → ((core : Core) → has_core kept.core core ≡ core_given c (shown_facts r) told core) → IsTold F c n k kept told → kept_record kept ≡ record_at F c
record_is F c r n k kept told shows forms fold simple category class kind cores found =
    let same_kind : kept.kind ≡ (F c).kind = kind ∙ ap (λ (G : Facts). G.kind) shows in
    let set : (core : Core) → has_core kept.core core ≡ core_at F c core = λ core.
    cores core ∙ ap (λ (G : Facts). core_given c G told core) shows
    ∙ cores_are F c told core forms.lowered forms.uppered forms.titled forms.folded forms.mapped found.xid_start found.xid_continue in
    let image : kept.casefold ≡ image_or_same (casefold_image Full F c) = ap image_or_same (sym fold) in
    let simple_image : kept.simple_casefold ≡ image_or_same (casefold_image Simple F c) = ap image_or_same (sym simple) in
    let nfd : kept.nfd ≡ quick_or_yes (quick F Nfd c) = found.nfd ∙ ap (λ x. quick_decomposed x false) same_kind ∙ nfd_check F c told.changes n k forms in
    let nfc : kept.nfc ≡ quick_or_yes (quick F Nfc c) = found.nfc ∙ nfc_check F c told.changes n k forms in
    let nfkd : kept.nfkd ≡ quick_or_yes (quick F Nfkd c) = found.nfkd ∙ ap (λ x. quick_decomposed x true) same_kind ∙ nfkd_check F c told.changes n k forms in
    let nfkc : kept.nfkc ≡ quick_or_yes (quick F Nfkc c) = found.nfkc ∙ nfkc_check F c told.changes n k forms in
    let changes : kept.changes_casefold ≡ changes_image c (image_or_same (casefold_image Full F c)) = found.changes ∙ other_of c (casefold Full F c) kept.casefold fold ∙ ap (changes_image c) image in
    let category_is : kept.category ≡ (F c).category = category ∙ ap (λ (G : Facts). G.category) shows in
    let class_is : kept.class ≡ (F c).class = class ∙ ap (λ (G : Facts). G.class) shows in
    λ i. record {
      category = category_is i;
      class = class_is i;
      kind = same_kind i;
      core = λ core. set core i;
      exclusion = found.exclusion i;
      nfd = nfd i;
      nfc = nfc i;
      nfkd = nfkd i;
      nfkc = nfkc i;
      casefold = image i;
      simple_casefold = simple_image i;
      changes_casefold = changes i;
    }

-- ---- the answer

pub hidden_stop : (F : ℕ → Facts) (c : ℕ) (r : FactsRef) → shown_facts r ≡ F c → lacks_a_row F c ≡ false → expansion_rule F c ≡ None → hidden_of F c (shown_facts r) ≡ true → derived F c ≡ Err V4
hidden_stop F c r shows lacks rule hidden = by_composite F c lacks rule (sym (ap (hidden_of F c) shows) ∙ hidden)

pub folding_stop : (F : ℕ → Facts) (c : ℕ) (r : FactsRef) (stop : FormStop) → shown_facts r ≡ F c → lacks_a_row F c ≡ false → expansion_rule F c ≡ None → hidden_of F c (shown_facts r) ≡ false
    → CasefoldsAnswer F c (Err stop) → RecordAnswers (Err stop) (derived F c)
folding_stop F c r (Bad rule) shows lacks none hidden e =
    by_folding F c lacks none (sym (ap (hidden_of F c) shows) ∙ hidden) e.1 ∙ ap (λ (k : Rule). Err k) (sym e.0)
folding_stop F c r Memory shows lacks none hidden e = tt

pub valid : (F : ℕ → Facts) (c : ℕ) (r : FactsRef) (i j : Image) (kept : KeptRecord) → shown_facts r ≡ F c → lacks_a_row F c ≡ false → expansion_rule F c ≡ None → hidden_of F c (shown_facts r) ≡ false
    → casefold_image Full F c ≡ Ok i → casefold_image Simple F c ≡ Ok j → kept_record kept ≡ record_at F c → derived F c ≡ Ok (kept_record kept)
valid F c r i j kept shows lacks none hidden fold simple same =
    by_none F c lacks none (sym (ap (hidden_of F c) shows) ∙ hidden) (both_fold F c i j fold simple) ∙ ap (λ (R : Record). Ok R) (sym same)
