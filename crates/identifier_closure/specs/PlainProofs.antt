-- Code points without a mapping.
-- Unmapped F c         c has no mapping that counts, whether compatibility mappings count or not
-- kind_forms           where the kind of c is Plain, its NFD, NFC and NFKC are c alone
-- kind_rule            where it is, the expansions of c break no rule
-- folded_if            where image_or_rule gives an image, there is a list
-- plain_core c G p     whether c with the facts G and no mapping has the core property p
-- plain_record c G s   its record, where s says whether it is the second member of a primary composite's mapping
-- plain_derived        the record that is derived of a point without a mapping is plain_record
use Rattle.std.proofs.Common.{◌≡◌, ℕ, Bool, true, false, ◌&&◌, ◌||◌, not, ◌==◌, List, [], ◌∷◌, ◌++◌, Option, Some, None, Ok, if◌then◌else◌, refl, ap, ◌∙◌, bytes_eq}
use Rattle.std.specs.List.{list_any}
use Rattle.std.proofs.lemmas.Slice.Eq.{bytes_eq-Decides}
use Rattle.ucd_points.specs.PlainProofs.{either, none_of, and_self}
use Rattle.ucd_model.specs.CanonicalOrder.{class_of, order}
use Rattle.ucd_model.specs.Casing.{folded, lowers, uppers, titles, folds, casemaps, changes_when, where_form}
use Rattle.ucd_facts.specs.Composites.{primary, is_canonical, first_has_class_zero, second_of}
use Rattle.ucd_facts.specs.Expansion.{counts, counted, alone_or_joined, expand, full}
use Rattle.ucd_facts.specs.Facts.{Facts, image_points, is_plain}
use Rattle.ucd_facts.specs.declared.decomposition.Kind.TheVariants.{Plain}
use Rattle.ucd_facts.specs.declared.image.Image.{Image}
use Rattle.ucd_facts.specs.declared.image.Image.TheVariants.{Same, To}
use Rattle.ucd_model.specs.FoldRounds.{casefold, casefold_image, image_or_rule, image_or_same}
use Rattle.ucd_model.specs.Forms.{nfd, nfkc, composed, decomposed}
use Rattle.ucd_model.specs.Identifiers.{starts, continues}
use Rattle.ucd_facts.specs.Predicates.{holds, cased, default_ignorable, id_start, id_continue}
use Rattle.ucd_model.specs.QuickChecks.{excludes_mapping, full_exclusion, quick_composed, quick_given, quick_where, quick, quick_or_yes}
use Rattle.ucd_model.specs.Records.{Record, core_at, changes_image, record_at, derived}
use Rattle.ucd_facts.specs.Uniform.{IsPlain}
use Rattle.ucd_model.specs.Validity.{lacks_row, lacks_a_row, mappings, is_none, is_unfolded, is_hidden, is_other, composite_of}
use Rattle.ucd_facts.specs.declared.folding.Folding.{Folding}
use Rattle.ucd_facts.specs.declared.folding.Folding.TheVariants.{Full, Simple}
use Rattle.ucd_facts.specs.declared.form.Form.TheVariants.{Nfd, Nfc, Nfkd, Nfkc}
use Rattle.ucd_facts.specs.declared.form.Quick.TheVariants.{Yes, No, Maybe}
use Rattle.ucd_facts.specs.declared.property.Core.{Core}
use Rattle.ucd_facts.specs.declared.property.Core.TheVariants.{ChangesWhenLowercased, ChangesWhenUppercased, ChangesWhenTitlecased, ChangesWhenCasefolded, ChangesWhenCasemapped, XidStart, XidContinue}
use Rattle.fold_rounds.specs.RoundProofs.{alone_image}
use Rattle.identifier_closure.specs.PointForms.{expansion_rule, HaveForms}
use Rattle.identifier_closure.specs.RuleProofs.{by_none}

-- ---- forms

alone_list : (c : ℕ) → bytes_eq (c ∷ []) (c ∷ []) ≡ true
alone_list c = (bytes_eq-Decides (c ∷ []) (c ∷ [])).1 refl

abbrev pub Unmapped : (ℕ → Facts) → ℕ → Type 0
Unmapped F c = (compat : Bool) → counted F compat c ≡ []

kind_unmapped : (F : ℕ → Facts) (c : ℕ) → (F c).kind ≡ Plain → Unmapped F c
kind_unmapped F c e compat = ap (λ k. if counts compat k then (F c).mapping else []) e

plain_unmapped : (F : ℕ → Facts) (c : ℕ) → IsPlain c (F c) → Unmapped F c
plain_unmapped F c p compat = ap (λ m. if counts compat (F c).kind then m else []) p.mapping ∙ either (counts compat (F c).kind) []

full_alone : (F : ℕ → Facts) (c : ℕ) (compat : Bool) → Unmapped F c → full F compat c ≡ Some (c ∷ [])
unfolding full
full_alone F c compat u = ap (λ m. alone_or_joined c m (expand F compat 7)) (u compat)

no_rule : (F : ℕ → Facts) (c : ℕ) → Unmapped F c → expansion_rule F c ≡ None
no_rule F c u = rw (full_alone F c false u, full_alone F c true u) refl

ordered_alone : (F : ℕ → Facts) (c : ℕ) → order (class_of F) (c ∷ []) ≡ c ∷ []
ordered_alone F c = either ((F c).class == 0) (c ∷ [])

decomposed_alone : (F : ℕ → Facts) (c : ℕ) (compat : Bool) → Unmapped F c → decomposed F compat (c ∷ []) ≡ Ok (c ∷ [])
decomposed_alone F c compat u = rw (full_alone F c compat u) (ap (λ zs. Ok zs) (ordered_alone F c))

forms_alone : (F : ℕ → Facts) (c : ℕ) → Unmapped F c → HaveForms F c (c ∷ []) (c ∷ []) (c ∷ [])
forms_alone F c u = record {
  nfd = decomposed_alone F c false u;
  nfc = ap (composed F) (decomposed_alone F c false u);
  nfkc = ap (composed F) (decomposed_alone F c true u);
}

pub kind_forms : (F : ℕ → Facts) (c : ℕ) → (F c).kind ≡ Plain → HaveForms F c (c ∷ []) (c ∷ []) (c ∷ [])
kind_forms F c e = forms_alone F c (kind_unmapped F c e)

pub kind_rule : (F : ℕ → Facts) (c : ℕ) → (F c).kind ≡ Plain → expansion_rule F c ≡ None
kind_rule F c e = no_rule F c (kind_unmapped F c e)

-- ---- the rules

itself : (F : ℕ → Facts) (c : ℕ) → lacks_row F c (c ∷ []) ≡ false
itself F c = ap (λ b. not b && list_any (λ x. not (F x).assigned) (c ∷ [])) (alone_list c)

lacks_none : (F : ℕ → Facts) (c : ℕ) → IsPlain c (F c) → lacks_a_row F c ≡ false
lacks_none F c p =
    let shown : list_any (lacks_row F c) (mappings c (F c)) ≡ list_any (lacks_row F c) ([] ∷ (c ∷ []) ∷ (c ∷ []) ∷ (c ∷ []) ∷ (c ∷ []) ∷ (c ∷ []) ∷ (c ∷ []) ∷ (c ∷ []) ∷ (c ∷ []) ∷ []) =
    rw (p.mapping, p.simple_upper, p.simple_lower, p.simple_title, p.simple_fold, p.upper, p.lower, p.title, p.fold) refl in
    shown ∙ rw (itself F c) refl

not_hidden : (F : ℕ → Facts) (c : ℕ) → IsPlain c (F c) → is_hidden F c ≡ false
not_hidden F c p =
    let none : primary F c ≡ false =
    ap (λ m. is_canonical (F c).kind && (((F c).class == 0) && (first_has_class_zero F m && not (F c).excluded))) p.mapping
    ∙ none_of (is_canonical (F c).kind) ((F c).class == 0) (not (F c).excluded) in
    ap (λ b. b && is_other c (composite_of F (F c).mapping)) none

-- ---- the folding

own_fold : (folding : Folding) (F : ℕ → Facts) (c : ℕ) → IsPlain c (F c) → folded folding F (c ∷ []) ≡ c ∷ []
own_fold Full F c p = ap (λ i. image_points c i ++ []) p.fold
own_fold Simple F c p = ap (λ (x : ℕ). x ∷ []) p.simple_fold

pub folded_if : (c : ℕ) (r : Option (List ℕ)) (i : Image) → image_or_rule c r ≡ Ok i → is_none r ≡ false
folded_if c (Some s) i e = refl
folded_if c None i e = cc

-- ---- the record

abbrev pub plain_core : ℕ → Facts → Core → Bool
plain_core c G ChangesWhenLowercased = false
plain_core c G ChangesWhenUppercased = false
plain_core c G ChangesWhenTitlecased = false
plain_core c G ChangesWhenCasefolded = false
plain_core c G ChangesWhenCasemapped = false
plain_core c G XidStart = id_start G
plain_core c G XidContinue = id_continue G
plain_core c G core = holds core c G

abbrev pub plain_record : ℕ → Facts → Bool → Record
plain_record c G second = record {
  category = G.category;
  class = G.class;
  kind = G.kind;
  core = plain_core c G;
  exclusion = G.excluded;
  nfd = if is_canonical G.kind then No else Yes;
  nfc = if second then Maybe else Yes;
  nfkd = if is_plain G.kind then Yes else No;
  nfkc = if second then Maybe else Yes;
  casefold = if default_ignorable c G then To [] else Same;
  simple_casefold = if default_ignorable c G then To [] else Same;
  changes_casefold = default_ignorable c G;
}

or_none : (a b : Bool) → (a || (b && false)) ≡ a
or_none true b = refl
or_none false true = refl
or_none false false = refl

-- a mapping that is c alone changes nothing
module _ (F : ℕ → Facts) (c : ℕ) (p : IsPlain c (F c)) where
  u : Unmapped F c
  u = plain_unmapped F c p

  nfd_is : nfd F (c ∷ []) ≡ Ok (c ∷ [])
  nfd_is = decomposed_alone F c false u

  nfkc_is : nfkc F (c ∷ []) ≡ Ok (c ∷ [])
  nfkc_is = (forms_alone F c u).nfkc

  same_list : (i : Image) → i ≡ Same → not (bytes_eq (image_points c i ++ []) (c ∷ [])) ≡ false
  same_list i e = ap (λ j. not (bytes_eq (image_points c j ++ []) (c ∷ []))) e ∙ ap not (alone_list c)

  lowers_not : changes_when lowers F c ≡ false
  lowers_not = ap (where_form (lowers F)) nfd_is ∙ same_list (F c).lower p.lower

  uppers_not : changes_when uppers F c ≡ false
  uppers_not = ap (where_form (uppers F)) nfd_is ∙ same_list (F c).upper p.upper

  folds_not : changes_when folds F c ≡ false
  folds_not = ap (where_form (folds F)) nfd_is ∙ same_list (F c).fold p.fold

  title_if : (b : Bool) (i : Image) → i ≡ Same → not (bytes_eq (if b then image_points c i ++ [] else c ∷ []) (c ∷ [])) ≡ false
  title_if true i e = same_list i e
  title_if false i e = ap not (alone_list c)

  titles_not : changes_when titles F c ≡ false
  titles_not = ap (where_form (titles F)) nfd_is ∙ title_if (cased (F c)) (F c).title p.title

  casemaps_not : changes_when casemaps F c ≡ false
  casemaps_not = ap (where_form (casemaps F)) nfd_is ∙ rw (same_list (F c).lower p.lower, same_list (F c).upper p.upper, title_if (cased (F c)) (F c).title p.title) refl

  core_is : (core : Core) → core_at F c core ≡ plain_core c (F c) core
  core_is ChangesWhenLowercased = lowers_not
  core_is ChangesWhenUppercased = uppers_not
  core_is ChangesWhenTitlecased = titles_not
  core_is ChangesWhenCasefolded = folds_not
  core_is ChangesWhenCasemapped = casemaps_not
  core_is XidStart = ap (λ r. id_start (F c) && where_form (starts F) r) nfkc_is ∙ and_self (id_start (F c))
  core_is XidContinue = ap (λ r. id_continue (F c) && where_form (continues F) r) nfkc_is ∙ and_self (id_continue (F c))
  core_is _ = refl

  exclusion_is : full_exclusion F c ≡ (F c).excluded
  exclusion_is = ap (λ m. (F c).excluded || (is_canonical (F c).kind && excludes_mapping F c m)) p.mapping ∙ or_none (F c).excluded (is_canonical (F c).kind)

  composed_check : quick_composed F c (c ∷ []) ≡ (if second_of F c then Maybe else Yes)
  composed_check = ap (λ b. if b then (if second_of F c then Maybe else Yes) else No) (alone_list c)

  nfd_check : quick_or_yes (quick F Nfd c) ≡ (if is_canonical (F c).kind then No else Yes)
  nfd_check = ap (λ r. quick_or_yes (quick_where (quick_given F Nfd c) r)) nfd_is

  nfc_check : quick_or_yes (quick F Nfc c) ≡ (if second_of F c then Maybe else Yes)
  nfc_check = ap (λ r. quick_or_yes (quick_where (quick_given F Nfc c) r)) (forms_alone F c u).nfc ∙ composed_check

  nfkd_check : quick_or_yes (quick F Nfkd c) ≡ (if is_plain (F c).kind then Yes else No)
  nfkd_check = ap (λ r. quick_or_yes (quick_where (quick_given F Nfkd c) r)) (decomposed_alone F c true u)

  nfkc_check : quick_or_yes (quick F Nfkc c) ≡ (if second_of F c then Maybe else Yes)
  nfkc_check = ap (λ r. quick_or_yes (quick_where (quick_given F Nfkc c) r)) nfkc_is ∙ composed_check

  fold_is : (folding : Folding) → casefold_image folding F c ≡ Ok (if default_ignorable c (F c) then To [] else Same)
  fold_is folding = alone_image folding F c nfkc_is (own_fold folding F c p) (default_ignorable c (F c)) refl

  image_is : (folding : Folding) → image_or_same (casefold_image folding F c) ≡ (if default_ignorable c (F c) then To [] else Same)
  image_is folding = ap image_or_same (fold_is folding)

  changes_if : (b : Bool) → changes_image c (if b then To [] else Same) ≡ b
  changes_if true = refl
  changes_if false = ap not (alone_list c)

  record_is : record_at F c ≡ plain_record c (F c) (second_of F c)
  record_is =
      let changes : changes_image c (image_or_same (casefold_image Full F c)) ≡ default_ignorable c (F c) = ap (changes_image c) (image_is Full) ∙ changes_if (default_ignorable c (F c)) in
      λ i. record {
        category = (F c).category;
        class = (F c).class;
        kind = (F c).kind;
        core = λ core. core_is core i;
        exclusion = exclusion_is i;
        nfd = nfd_check i;
        nfc = nfc_check i;
        nfkd = nfkd_check i;
        nfkc = nfkc_check i;
        casefold = image_is Full i;
        simple_casefold = image_is Simple i;
        changes_casefold = changes i;
      }

  has_fold : (folding : Folding) → is_none (casefold folding F c) ≡ false
  has_fold folding = folded_if c (casefold folding F c) (if default_ignorable c (F c) then To [] else Same) (fold_is folding)

  reaches : is_unfolded F c ≡ false
  reaches = rw (has_fold Full, has_fold Simple) refl

  pub plain_derived : derived F c ≡ Ok (plain_record c (F c) (second_of F c))
  plain_derived = by_none F c (lacks_none F c p) (no_rule F c u) (not_hidden F c p) reaches ∙ ap (λ (R : Record). Ok R) record_is
