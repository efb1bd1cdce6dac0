-- Proofs of the laws of names. No word but those of the laws is defined here for others.
-- categories_are_spelled, statuses_are_spelled, tag_texts_are_names, names_tell_values   the laws of the same names
use Rattle.std.proofs.Common.{◌≡◌, ◌≢◌, ℕ, Bool, true, false, ◌&&◌, not, ◌==◌, if◌then◌else◌, List, [], ◌∷◌, ◌++◌, Option, Some, None, refl, sym, ap, ◌∙◌, ◌⊎◌, inl, inr, codes, bytes_eq}
use Rattle.std.specs.List.{list_all}
use Rattle.std.proofs.lemmas.Bool.{true≢false, and_parts, eqb-true, not-true}
use Rattle.std.proofs.lemmas.Slice.Eq.{bytes_eq-Decides}
use Rattle.std.proofs.lemmas.Option.{same_Some}
use Rattle.ucd_facts.specs.Names.{category_of, category_code, status_of, status_code, tag_text, tag_name, flag_name, core_name, derived_path}
use Rattle.ucd_points.specs.SourceFiles.{source_path, source_files, file_place}
use Rattle.ucd_facts.specs.Enumerations.{derived_files, categories, statuses, tags, place_of_tag, flags, place_of_derived}
use Rattle.ucd_facts.specs.Facts.{status_place}
use Rattle.ucd_facts.specs.Predicates.{category_place, core_properties}
use Rattle.ucd_facts.specs.Sets.{flag_place, core_place}
use Rattle.ucd_facts.specs.EnumerationProofs.{enumerates_categories, enumerates_statuses, enumerates_tags, enumerates_flags, enumerates_core_properties, enumerates_source_files, enumerates_derived_files, true_of_each, text-injective}
use Rattle.ucd_facts.specs.NameLaws.{CategoriesAreSpelled, StatusesAreSpelled, TagTextsAreNames, NamesTellValues}
use Rattle.ucd_facts.specs.declared.category.Category.{Category}
use Rattle.ucd_facts.specs.declared.category.Category.TheVariants.{Lu, Ll, Lt, Lm, Lo, Mn, Mc, Me, Nd, Nl, No, Pc, Pd, Ps, Pe, Pi, Pf, Po, Sm, Sc, Sk, So, Zs, Zl, Zp, Cc, Cf, Cs, Co, Cn}
use Rattle.ucd_facts.specs.declared.row.FoldStatus.{FoldStatus}
use Rattle.ucd_facts.specs.declared.row.FoldStatus.TheVariants as status

-- ---- what a ladder of tests gives: a list of numbers, each with its value

if_some : {X : Type 0} (a n : ℕ) (r s : Option X) (x : X) (t : Bool) → (a == n) ≡ t → (if t then r else s) ≡ Some x → ((a ≡ n) × (r ≡ Some x)) ⊎ (s ≡ Some x)
if_some a n r s x true e is = inl (eqb-true a n e, is)
if_some a n r s x false e is = inr is

abbrev named : {X : Type 0} → List (ℕ × X) → ℕ → Option X
named [] b = None
named (e ∷ rest) b = if b == e.0 then Some e.1 else named rest b

named-true : {X : Type 0} (p : ℕ → X → Bool) (ladder : List (ℕ × X)) (b : ℕ) (x : X) → list_all (λ e. p e.0 e.1) ladder ≡ true → named ladder b ≡ Some x → p b x ≡ true
named-true p [] b x all is = cc
named-true p (e ∷ rest) b x all is =
    let parts = and_parts (p e.0 e.1) (list_all (λ e. p e.0 e.1) rest) all in
    elim (if_some b e.0 (Some e.1) (named rest b) x (b == e.0) refl is) [
      | inl here ↦ ap (λ n. p n x) here.0 ∙ ap (p e.0) (sym (same_Some e.1 x here.1)) ∙ parts.0
      | inr later ↦ named-true p rest b x parts.1 later
    ]

abbrev grouped : {X : Type 0} → List (ℕ × List (ℕ × X)) → ℕ → ℕ → Option X
grouped [] a b = None
grouped (g ∷ rest) a b = if a == g.0 then named g.1 b else grouped rest a b

grouped-true : {X : Type 0} (p : ℕ → ℕ → X → Bool) (groups : List (ℕ × List (ℕ × X))) (a b : ℕ) (x : X) → list_all (λ g. list_all (λ e. p g.0 e.0 e.1) g.1) groups ≡ true
    → grouped groups a b ≡ Some x → p a b x ≡ true
grouped-true p [] a b x all is = cc
grouped-true p (g ∷ rest) a b x all is =
    let parts = and_parts (list_all (λ e. p g.0 e.0 e.1) g.1) (list_all (λ g. list_all (λ e. p g.0 e.0 e.1) g.1) rest) all in
    elim (if_some a g.0 (named g.1 b) (grouped rest a b) x (a == g.0) refl is) [
      | inl here ↦ ap (λ n. p n b x) here.0 ∙ named-true (p g.0) g.1 b x parts.0 here.1
      | inr later ↦ grouped-true p rest a b x parts.1 later
    ]

-- ---- categories

abbrev category_ladders : List (ℕ × List (ℕ × Category))
category_ladders =
    (76, (117, Lu) ∷ (108, Ll) ∷ (116, Lt) ∷ (109, Lm) ∷ (111, Lo) ∷ []) ∷ (77, (110, Mn) ∷ (99, Mc) ∷ (101, Me) ∷ [])
    ∷ (78, (100, Nd) ∷ (108, Nl) ∷ (111, No) ∷ [])
    ∷ (80, (99, Pc) ∷ (100, Pd) ∷ (115, Ps) ∷ (101, Pe) ∷ (105, Pi) ∷ (102, Pf) ∷ (111, Po) ∷ [])
    ∷ (83, (109, Sm) ∷ (99, Sc) ∷ (107, Sk) ∷ (111, So) ∷ []) ∷ (90, (115, Zs) ∷ (108, Zl) ∷ (112, Zp) ∷ [])
    ∷ (67, (99, Cc) ∷ (102, Cf) ∷ (115, Cs) ∷ (111, Co) ∷ []) ∷ []

abbrev spells_category : ℕ → ℕ → Category → Bool
spells_category a b k = bytes_eq (a ∷ b ∷ []) (category_code k) && not (category_place k == 29)

ladders_spell : (a b : ℕ) (k : Category) → category_of (a ∷ b ∷ []) ≡ Some k → spells_category a b k ≡ true
ladders_spell a b k is = grouped-true spells_category category_ladders a b k refl is

category_spelled : (bs : List ℕ) (k : Category) → category_of bs ≡ Some k → (k ≢ Cn) × (bs ≡ category_code k)
category_spelled (a ∷ b ∷ []) k is =
    let parts = and_parts (bytes_eq (a ∷ b ∷ []) (category_code k)) (not (category_place k == 29)) (ladders_spell a b k is) in
    (λ last. true≢false (sym (ap (λ j. category_place j == 29) last) ∙ not-true (category_place k == 29) parts.1), (bytes_eq-Decides (a ∷ b ∷ []) (category_code k)).0 parts.0)
category_spelled _ k is = cc

pub code_names : (k : Category) → k ≢ Cn → category_of (category_code k) ≡ Some k
code_names Cn other = absurd (other refl)
code_names _ other = refl

pub categories_are_spelled : CategoriesAreSpelled
categories_are_spelled bs k = (category_spelled bs k, λ is. ap category_of is.1 ∙ code_names k is.0)

-- ---- statuses

abbrev status_ladder : List (ℕ × FoldStatus)
status_ladder = (67, status.C) ∷ (70, status.F) ∷ (83, status.S) ∷ (84, status.T) ∷ []

status_spelled : (bs : List ℕ) (s : FoldStatus) → status_of bs ≡ Some s → bs ≡ status_code s ∷ []
status_spelled (b ∷ []) s is = ap (λ n. n ∷ []) (eqb-true b (status_code s) (named-true (λ n x. n == status_code x) status_ladder b s refl is))
status_spelled _ s is = cc

pub code_is_status : (s : FoldStatus) → status_of (status_code s ∷ []) ≡ Some s
code_is_status status.C = refl
code_is_status _ = refl

pub statuses_are_spelled : StatusesAreSpelled
statuses_are_spelled bs s = (status_spelled bs s, λ is. ap status_of is ∙ code_is_status s)

-- ---- names

pub tag_texts_are_names : TagTextsAreNames
tag_texts_are_names t =
    (bytes_eq-Decides (tag_text t) (codes "<" ++ tag_name t ++ codes ">")).0
    (true_of_each tags place_of_tag enumerates_tags (λ x. bytes_eq (tag_text x) (codes "<" ++ tag_name x ++ codes ">")) refl t)

pub names_tell_values : NamesTellValues
names_tell_values = record {
  category = text-injective categories category_place category_code enumerates_categories refl;
  status = λ a b e. text-injective statuses status_place (λ s. status_code s ∷ []) enumerates_statuses refl a b (ap (λ n. n ∷ []) e);
  tag = text-injective tags place_of_tag tag_name enumerates_tags refl;
  flag = text-injective flags flag_place flag_name enumerates_flags refl;
  core = text-injective core_properties core_place core_name enumerates_core_properties refl;
  source = text-injective source_files file_place source_path enumerates_source_files refl;
  derived = text-injective derived_files place_of_derived derived_path enumerates_derived_files refl;
}
