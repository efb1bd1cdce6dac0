-- Locality of the derivation: facts that answer what it asks alike derive the same record, and ask the same.
-- has_last         the rounds of a point whose foldings have values have a last one, by each folding
-- asked_is_local   the law of the same name
use Rattle.std.proofs.Common.{◌≡◌, ℕ, Bool, true, false, cond, ◌&&◌, ◌||◌, not, ◌==◌, List, [], ◌∷◌, ◌++◌, Option, Some, None, Ok, if◌then◌else◌, refl, sym, ap, ◌∙◌, subst, arith, option_and_then, bytes_eq}
use Rattle.std.specs.List.{flat_map, list_any}
use Rattle.std.proofs.lemmas.Bool.{or_parts}
use Rattle.ucd_model.specs.Casing.{lower, upper, fold, title, lowers, uppers, titles, folds, casemaps, where_form, changes_when}
use Rattle.ucd_facts.specs.Composites.{is_canonical, first_has_class_zero, primary, second_of}
use Rattle.ucd_facts.specs.Expansion.{full}
use Rattle.ucd_facts.specs.Facts.{Facts, is_plain}
use Rattle.ucd_model.specs.FoldRounds.{rounds, casefold, casefold_image, image_or_rule, image_or_same}
use Rattle.ucd_model.specs.Forms.{nfd, nfc, nfkd, nfkc}
use Rattle.ucd_model.specs.Identifiers.{continues, starts}
use Rattle.ucd_facts.specs.Predicates.{holds, id_start, id_continue}
use Rattle.ucd_model.specs.QuickChecks.{excludes_mapping, full_exclusion, quick_given, quick_where, quick, quick_or_yes}
use Rattle.ucd_model.specs.Records.{Record, core_at, changes_image, record_at, record_or_rule}
use Rattle.ucd_model.specs.Validity.{mappings, lacks_row, lacks_a_row, is_none, is_endless, is_too_long, composite_of, is_other, is_hidden, is_unfolded, broken}
use Rattle.ucd_model.specs.ValidityProofs.{KeepsRules, broken-none, broken-rules}
use Rattle.ucd_facts.specs.declared.folding.Folding.{Folding}
use Rattle.ucd_facts.specs.declared.folding.Folding.TheVariants.{Full, Simple}
use Rattle.ucd_facts.specs.declared.form.Form.{Form}
use Rattle.ucd_facts.specs.declared.form.Form.TheVariants.{Nfd, Nfc, Nfkd, Nfkc}
use Rattle.ucd_facts.specs.declared.form.Quick.{Quick}
use Rattle.ucd_facts.specs.declared.form.Quick.TheVariants.{Yes, No, Maybe}
use Rattle.ucd_facts.specs.declared.property.Core.{Core}
use Rattle.ucd_facts.specs.declared.property.Core.TheVariants.{Math, Alphabetic, Lowercase, Uppercase, Cased, CaseIgnorable, ChangesWhenLowercased, ChangesWhenUppercased, ChangesWhenTitlecased, ChangesWhenCasefolded, ChangesWhenCasemapped, IdStart, IdContinue, XidStart, XidContinue, DefaultIgnorableCodePoint, GraphemeExtend, GraphemeBase, GraphemeLink}
use Rattle.ucd_facts.specs.declared.query.Query.TheVariants.{Row, Second}
use Rattle.ucd_facts.specs.Answers.{SameAnswer, Each}
use Rattle.ucd_facts.specs.declared.query.Query.{Query}
use Rattle.query_laws.specs.ExpansionProofs.{SameRows, rows_same, full_same}
use Rattle.query_laws.specs.FormProofs.{form_same, tree_rows, decomposed_rows, composed_rows}
use Rattle.query_laws.specs.Laws.{SameForm, SameFolding, AskedIsLocal}
use Rattle.query_laws.specs.ListProofs.{Each-left, Each-right}
use Rattle.query_laws.specs.Questions.{whole_tree, row_queries, asks, last_round, rounds_ask, foldings_ask, facts_ask, pair_queries, composite_asks, asked}
use Rattle.query_laws.specs.RoundProofs.{fold_same, folding_same}
use Rattle.query_laws.specs.RowProofs.{where_same, lacks_same, zero_class_same, excludes_same, hidden_same, lower_same, upper_same, title_same, changed_same, casemaps_same, continues_same, starts_same}

-- ---- the rules that are kept

unbroken : (F : ℕ → Facts) (c : ℕ) → KeepsRules F c → broken F c ≡ None
unfolding broken
unbroken F c k = rw (k.rows, k.chains, k.lengths, k.composites, k.folds) refl

some_last : (folding : Folding) (F : ℕ → Facts) (c : ℕ) (r : Option ℕ) → is_none (option_and_then (λ i. rounds folding F i (c ∷ [])) r) ≡ false → (n : ℕ) × (r ≡ Some n)
some_last folding F c (Some n) e = (n, refl)
some_last folding F c None e = cc

reaches : (F : ℕ → Facts) (c : ℕ) → is_unfolded F c ≡ false → (folding : Folding) → is_none (casefold folding F c) ≡ false
reaches F c e Full = (or_parts (is_none (casefold Full F c)) (is_none (casefold Simple F c)) e).0
reaches F c e Simple = (or_parts (is_none (casefold Full F c)) (is_none (casefold Simple F c)) e).1

pub has_last : (F : ℕ → Facts) (c : ℕ) → is_unfolded F c ≡ false → (folding : Folding) → (n : ℕ) × (last_round folding F c ≡ Some n)
unfolding last_round
has_last F c e folding = some_last folding F c (last_round folding F c) (reaches F c e folding)

casefold_at : (folding : Folding) (F : ℕ → Facts) (c n : ℕ) → last_round folding F c ≡ Some n → casefold folding F c ≡ rounds folding F n (c ∷ [])
unfolding last_round
casefold_at folding F c n e = ap (option_and_then (λ i. rounds folding F i (c ∷ []))) e

-- ---- what the record is made of

record AskedParts (F G : ℕ → Facts) (c : ℕ) : Type 0 where
  facts : Each (SameAnswer F G) (facts_ask F c)
  composite : Each (SameAnswer F G) (composite_asks F c)
  canonical : Each (SameAnswer F G) (asks F false (c ∷ []))
  compat : Each (SameAnswer F G) (asks F true (c ∷ []))
  folding : (folding : Folding) → Each (SameAnswer F G) (rounds_ask folding F c (last_round folding F c))

folding_part : (F : ℕ → Facts) (c : ℕ) (P : Query → Type 0) → Each P (foldings_ask F c) → (folding : Folding) → Each P (rounds_ask folding F c (last_round folding F c))
folding_part F c P a Full = Each-left P (rounds_ask Full F c (last_round Full F c)) (rounds_ask Simple F c (last_round Simple F c) ++ []) a
folding_part F c P a Simple =
    let simple : List Query = rounds_ask Simple F c (last_round Simple F c) in
    Each-left P simple [] (Each-right P (rounds_ask Full F c (last_round Full F c)) (simple ++ []) a)

asked_parts : (F G : ℕ → Facts) (c : ℕ) → Each (SameAnswer F G) (asked F c) → AskedParts F G c
unfolding asked
asked_parts F G c a =
    let P : Query → Type 0 = SameAnswer F G in
    let r1 = Each-right P (facts_ask F c) (composite_asks F c ++ (asks F false (c ∷ []) ++ (asks F true (c ∷ []) ++ foldings_ask F c))) a in
    let r2 = Each-right P (composite_asks F c) (asks F false (c ∷ []) ++ (asks F true (c ∷ []) ++ foldings_ask F c)) r1 in
    let r3 = Each-right P (asks F false (c ∷ [])) (asks F true (c ∷ []) ++ foldings_ask F c) r2 in
    record {
      facts = Each-left P (facts_ask F c) (composite_asks F c ++ (asks F false (c ∷ []) ++ (asks F true (c ∷ []) ++ foldings_ask F c))) a;
      composite = Each-left P (composite_asks F c) (asks F false (c ∷ []) ++ (asks F true (c ∷ []) ++ foldings_ask F c)) r1;
      canonical = Each-left P (asks F false (c ∷ [])) (asks F true (c ∷ []) ++ foldings_ask F c) r2;
      compat = Each-left P (asks F true (c ∷ [])) (foldings_ask F c) r3;
      folding = folding_part F c P (Each-right P (asks F true (c ∷ [])) (foldings_ask F c) r3);
    }

module _ (F G : ℕ → Facts) (c : ℕ) (a : AskedParts F G c) (last : (folding : Folding) → (n : ℕ) × (last_round folding F c ≡ Some n)) where
  own : F c ≡ G c
  own = a.facts.0

  second : second_of F c ≡ second_of G c
  second = a.facts.1.0

  members : SameRows F G (flat_map (λ m. m) (mappings c (F c)))
  members = rows_same F G (flat_map (λ m. m) (mappings c (F c))) a.facts.1.1

  mapping : SameRows F G (F c).mapping
  mapping = Each-left (λ x. F x ≡ G x) (F c).mapping _ members

  canonical : SameForm F G false (c ∷ [])
  canonical = form_same F G false (c ∷ []) a.canonical

  compat : SameForm F G true (c ∷ [])
  compat = form_same F G true (c ∷ []) a.compat

  folded : (folding : Folding) → SameFolding folding F G c (last folding).0
  folded folding = folding_same folding F G c (last folding).0 (last folding).1 (subst (λ r. Each (SameAnswer F G) (rounds_ask folding F c r)) (last folding).1 (a.folding folding))

  expansion_full : (kind : Bool) → Each (SameAnswer F G) (asks F kind (c ∷ [])) → full G kind c ≡ full F kind c
  expansion_full kind own = full_same F G kind c (Each-left (λ x. F x ≡ G x) (whole_tree F kind c) [] (tree_rows F G kind (c ∷ []) own))

  -- ---- the rules

  rows_kept : lacks_a_row G c ≡ lacks_a_row F c
  rows_kept = ap (λ (facts : Facts). list_any (lacks_row G c) (mappings c facts)) (sym own) ∙ lacks_same F G c (mappings c (F c)) members

  chains_kept : is_endless G c ≡ is_endless F c
  chains_kept = rw (expansion_full false a.canonical, expansion_full true a.compat) refl

  lengths_kept : is_too_long G c ≡ is_too_long F c
  lengths_kept = rw (expansion_full false a.canonical, expansion_full true a.compat) refl

  primary_same : primary G c ≡ primary F c
  primary_same =
      ap (λ (facts : Facts). is_canonical facts.kind && ((facts.class == 0) && (first_has_class_zero G facts.mapping && not facts.excluded))) (sym own)
      ∙ ap (λ b. is_canonical (F c).kind && (((F c).class == 0) && (b && not (F c).excluded))) (zero_class_same F G (F c).mapping mapping)

  composites_kept : is_hidden G c ≡ is_hidden F c
  composites_kept =
      ap (λ b. b && is_other c (composite_of G (G c).mapping)) primary_same
      ∙ ap (λ (facts : Facts). primary F c && is_other c (composite_of G facts.mapping)) (sym own)
      ∙ hidden_same F G (primary F c) c (F c).mapping a.composite

  casefold_same : (folding : Folding) → casefold folding G c ≡ casefold folding F c
  casefold_same folding =
      let n : ℕ = (last folding).0 in
      let same = folded folding in
      casefold_at folding G c n same.last ∙ same.lists n (omega arith) ∙ sym (casefold_at folding F c n (last folding).1)

  folds_kept : is_unfolded G c ≡ is_unfolded F c
  folds_kept = rw (casefold_same Full, casefold_same Simple) refl

  rules_kept : KeepsRules F c → KeepsRules G c
  rules_kept k = record {
    rows = rows_kept ∙ k.rows;
    chains = chains_kept ∙ k.chains;
    lengths = lengths_kept ∙ k.lengths;
    composites = composites_kept ∙ k.composites;
    folds = folds_kept ∙ k.folds;
  }

  -- ---- the record

  nfd_rows : (xs : List ℕ) → nfd F (c ∷ []) ≡ Ok xs → SameRows F G xs
  nfd_rows xs e = decomposed_rows F G false (c ∷ []) a.canonical xs e

  nfkc_rows : (xs : List ℕ) → nfkc F (c ∷ []) ≡ Ok xs → SameRows F G xs
  nfkc_rows xs e = composed_rows F G true (c ∷ []) a.compat xs e

  changes_same : (test : (ℕ → Facts) → List ℕ → Bool) → ((xs : List ℕ) → SameRows F G xs → test G xs ≡ test F xs) → changes_when test G c ≡ changes_when test F c
  changes_same test same = ap (where_form (test G)) canonical.decomposition ∙ where_same (test G) (test F) (nfd F (c ∷ [])) (λ xs e. same xs (nfd_rows xs e))

  closed_same : (test : (ℕ → Facts) → List ℕ → Bool) → ((xs : List ℕ) → SameRows F G xs → test G xs ≡ test F xs) → where_form (test G) (nfkc G (c ∷ [])) ≡ where_form (test F) (nfkc F (c ∷ []))
  closed_same test same = ap (where_form (test G)) compat.composition ∙ where_same (test G) (test F) (nfkc F (c ∷ [])) (λ xs e. same xs (nfkc_rows xs e))

  core_same : (core : Core) → core_at G c core ≡ core_at F c core
  core_same ChangesWhenLowercased = changes_same lowers (λ xs e. changed_same F G (lower G) (lower F) xs (lower_same F G xs e))
  core_same ChangesWhenUppercased = changes_same uppers (λ xs e. changed_same F G (upper G) (upper F) xs (upper_same F G xs e))
  core_same ChangesWhenTitlecased = changes_same titles (λ xs e. changed_same F G (title G) (title F) xs (title_same F G xs e))
  core_same ChangesWhenCasefolded = changes_same folds (λ xs e. changed_same F G (fold G) (fold F) xs (fold_same F G xs e))
  core_same ChangesWhenCasemapped = changes_same casemaps (casemaps_same F G)
  core_same XidStart = ap (λ (facts : Facts). id_start facts && where_form (starts G) (nfkc G (c ∷ []))) (sym own) ∙ ap (λ b. id_start (F c) && b) (closed_same starts (starts_same F G))
  core_same XidContinue = ap (λ (facts : Facts). id_continue facts && where_form (continues G) (nfkc G (c ∷ []))) (sym own) ∙ ap (λ b. id_continue (F c) && b) (closed_same continues (continues_same F G))
  core_same Math = ap (holds Math c) (sym own)
  core_same Alphabetic = ap (holds Alphabetic c) (sym own)
  core_same Lowercase = ap (holds Lowercase c) (sym own)
  core_same Uppercase = ap (holds Uppercase c) (sym own)
  core_same Cased = ap (holds Cased c) (sym own)
  core_same CaseIgnorable = ap (holds CaseIgnorable c) (sym own)
  core_same IdStart = ap (holds IdStart c) (sym own)
  core_same IdContinue = ap (holds IdContinue c) (sym own)
  core_same DefaultIgnorableCodePoint = ap (holds DefaultIgnorableCodePoint c) (sym own)
  core_same GraphemeExtend = ap (holds GraphemeExtend c) (sym own)
  core_same GraphemeBase = ap (holds GraphemeBase c) (sym own)
  core_same GraphemeLink = ap (holds GraphemeLink c) (sym own)

  exclusion_same : full_exclusion G c ≡ full_exclusion F c
  exclusion_same =
      ap (λ (facts : Facts). facts.excluded || (is_canonical facts.kind && excludes_mapping G c facts.mapping)) (sym own)
      ∙ ap (λ b. (F c).excluded || (is_canonical (F c).kind && b)) (excludes_same F G c (F c).mapping own mapping)

  abbrev composed_quick : Bool → List ℕ → Quick
  composed_quick t s = if bytes_eq s (c ∷ []) then (if t then Maybe else Yes) else No

  quick_same : (form : Form) → quick G form c ≡ quick F form c
  quick_same Nfd = ap (λ (facts : Facts). quick_where (λ s. if is_canonical facts.kind then No else Yes) (nfd G (c ∷ []))) (sym own) ∙ ap (quick_where (quick_given F Nfd c)) canonical.decomposition
  quick_same Nfkd = ap (λ (facts : Facts). quick_where (λ s. if is_plain facts.kind then Yes else No) (nfkd G (c ∷ []))) (sym own) ∙ ap (quick_where (quick_given F Nfkd c)) compat.decomposition
  quick_same Nfc = ap (λ t. quick_where (composed_quick t) (nfc G (c ∷ []))) (sym second) ∙ ap (quick_where (quick_given F Nfc c)) canonical.composition
  quick_same Nfkc = ap (λ t. quick_where (composed_quick t) (nfkc G (c ∷ []))) (sym second) ∙ ap (quick_where (quick_given F Nfkc c)) compat.composition

  image_same : (folding : Folding) → image_or_same (casefold_image folding G c) ≡ image_or_same (casefold_image folding F c)
  image_same folding = ap (λ r. image_or_same (image_or_rule c r)) (casefold_same folding)

  record_same : record_at G c ≡ record_at F c
  record_same = λ i. record {
    category = (sym own i).category;
    class = (sym own i).class;
    kind = (sym own i).kind;
    core = λ core. core_same core i;
    exclusion = exclusion_same i;
    nfd = quick_or_yes (quick_same Nfd i);
    nfc = quick_or_yes (quick_same Nfc i);
    nfkd = quick_or_yes (quick_same Nfkd i);
    nfkc = quick_or_yes (quick_same Nfkc i);
    casefold = image_same Full i;
    simple_casefold = image_same Simple i;
    changes_casefold = changes_image c (image_same Full i);
  }

  -- ---- what is asked

  facts_asked : facts_ask G c ≡ facts_ask F c
  facts_asked = ap (λ (facts : Facts). Row c ∷ Second c ∷ row_queries (flat_map (λ m. m) (mappings c facts))) (sym own)

  composite_asked : composite_asks G c ≡ composite_asks F c
  composite_asked = ap (λ b. cond b (pair_queries (G c).mapping) []) primary_same ∙ ap (λ (facts : Facts). cond (primary F c) (pair_queries facts.mapping) []) (sym own)

  folding_asked : (folding : Folding) → rounds_ask folding G c (last_round folding G c) ≡ rounds_ask folding F c (last_round folding F c)
  folding_asked folding =
      let same = folded folding in
      ap (rounds_ask folding G c) same.last ∙ same.asks ∙ ap (rounds_ask folding F c) (sym (last folding).1)

  foldings_asked : foldings_ask G c ≡ foldings_ask F c
  foldings_asked = rw (folding_asked Full, folding_asked Simple) refl

  asked_same : asked G c ≡ asked F c
  unfolding asked
  asked_same =
      ap (λ t. t ++ (composite_asks G c ++ (asks G false (c ∷ []) ++ (asks G true (c ∷ []) ++ foldings_ask G c)))) facts_asked
      ∙ ap (λ t. facts_ask F c ++ (t ++ (asks G false (c ∷ []) ++ (asks G true (c ∷ []) ++ foldings_ask G c)))) composite_asked
      ∙ ap (λ t. facts_ask F c ++ (composite_asks F c ++ (t ++ (asks G true (c ∷ []) ++ foldings_ask G c)))) canonical.asks
      ∙ ap (λ t. facts_ask F c ++ (composite_asks F c ++ (asks F false (c ∷ []) ++ (t ++ foldings_ask G c)))) compat.asks
      ∙ ap (λ t. facts_ask F c ++ (composite_asks F c ++ (asks F false (c ∷ []) ++ (asks F true (c ∷ []) ++ t)))) foldings_asked

pub asked_is_local : AskedIsLocal
asked_is_local F G c R e a =
    let none : broken F c ≡ None = broken-none F c (R, e) in
    let rules = broken-rules F c none in
    let last = has_last F c rules.folds in
    let parts = asked_parts F G c a in
    let kept : broken G c ≡ None = unbroken G c (rules_kept F G c parts last rules) in
    let same : record_at G c ≡ record_at F c = record_same F G c parts last in (
      ap (record_or_rule (record_at G c)) kept ∙ ap (λ (r : Record). Ok r) same ∙ sym (ap (record_or_rule (record_at F c)) none) ∙ e,
      asked_same F G c parts last,
    )
