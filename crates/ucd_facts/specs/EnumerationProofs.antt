-- Each list of Enumerations.antt is whole, and what is true of the list is true of each value.
-- enumerations_are_whole   the law of the same name
-- enumerates_categories .. enumerates_rules   its parts
-- kinds_behind             behind Plain and Canonical stand the kinds with a tag, in the order of the tags
-- true_of_each             a test that is true of the list's values is true of each value
-- place-below              each place lies below the length of the list
-- place-injective          two values at one place are one
-- place-at                 the value at a place of the list has that place
-- place-decides            equal places decide whether two values are equal
-- value-at                 the value that stands at a value's place is that value, whatever stands for a place past the list
-- are_apart text values place   a test: the text of each value stands first at its place among the texts of the values
-- text-injective           then two values with one text are one
use Rattle.std.proofs.Common.{◌≡◌, ℕ, zero, suc, ◌+◌, ◌-◌, ◌<◌, ◌≤◌, Bool, true, ◌==◌, List, [], ◌∷◌, map, length, get_or, slice_get, Some, refl, sym, ap, ◌∙◌, arith, option_map, bytes_eq, Decides}
use Rattle.std.specs.List.{list_all, position_or_len}
use Rattle.std.proofs.lemmas.Bool.{and_parts, eqb-true, eq-eqb}
use Rattle.std.proofs.lemmas.List.FromFn.{get_or-range_with_len}
use Rattle.std.proofs.Math.ListN.{get_or-map}
use Rattle.std.proofs.lemmas.Option.{get_or_from_slice_get, slice_get-get_or, slice_get-map, same_Some}
use Rattle.ucd_facts.specs.Enumerations.{derived_files, IsEnumeration, EnumerationsAreWhole, categories, statuses, tags, place_of_tag, kinds, place_of_kind, flags, place_of_derived, foldings, place_of_folding, forms, place_of_form, quick_values, place_of_quick, rules, place_of_rule}
use Rattle.ucd_facts.specs.Facts.{status_place, Kind}
use Rattle.ucd_facts.specs.Predicates.{category_place, core_properties}
use Rattle.ucd_facts.specs.Sets.{flag_place, core_place}
use Rattle.ucd_points.specs.SourceFiles.{source_files, file_place, file_place_small, file_at-place}
use Rattle.ucd_facts.specs.declared.category.Category.{Category}
use Rattle.ucd_facts.specs.declared.category.Category.TheVariants.{Lu}
use Rattle.ucd_facts.specs.declared.decomposition.Kind.TheVariants as kind
use Rattle.ucd_facts.specs.declared.decomposition.Tag.{Tag}
use Rattle.ucd_facts.specs.declared.decomposition.Tag.TheVariants.{Font, Compat}
use Rattle.ucd_points.specs.declared.files.SourceFile.{SourceFile}
use Rattle.ucd_points.specs.declared.files.SourceFile.TheVariants.{UnicodeData}
use Rattle.ucd_facts.specs.declared.files.DerivedFile.{DerivedFile}
use Rattle.ucd_facts.specs.declared.files.DerivedFile.TheVariants.{CoreProperties}
use Rattle.ucd_facts.specs.declared.folding.Folding.{Folding}
use Rattle.ucd_facts.specs.declared.folding.Folding.TheVariants.{Full, Simple}
use Rattle.ucd_facts.specs.declared.form.Bad.{Bad as Rule}
use Rattle.ucd_facts.specs.declared.form.Bad.TheVariants.{V1}
use Rattle.ucd_facts.specs.declared.form.Form.{Form}
use Rattle.ucd_facts.specs.declared.form.Form.TheVariants.{Nfd}
use Rattle.ucd_facts.specs.declared.form.Quick.{Quick}
use Rattle.ucd_facts.specs.declared.form.Quick.TheVariants as quick
use Rattle.ucd_facts.specs.declared.property.Flag.{Flag}
use Rattle.ucd_facts.specs.declared.property.Flag.TheVariants.{WhiteSpace}
use Rattle.ucd_facts.specs.declared.property.Core.{Core}
use Rattle.ucd_facts.specs.declared.property.Core.TheVariants.{Math}
use Rattle.ucd_facts.specs.declared.row.FoldStatus.{FoldStatus}
use Rattle.ucd_facts.specs.declared.row.FoldStatus.TheVariants as status

-- ---- one table for each enumeration

category_at : (x : Category) → slice_get categories (category_place x) ≡ Some x
category_at Lu = refl
category_at _ = refl

status_at : (x : FoldStatus) → slice_get statuses (status_place x) ≡ Some x
status_at status.C = refl
status_at _ = refl

tag_at : (x : Tag) → slice_get tags (place_of_tag x) ≡ Some x
tag_at Font = refl
tag_at _ = refl

behind_two : (a b : Kind) (rest : List Kind) (n : ℕ) → slice_get (a ∷ b ∷ rest) (2 + n) ≡ slice_get rest n
behind_two a b rest n = let next : 2 + n ≡ suc (suc n) = omega arith in ap (slice_get (a ∷ b ∷ rest)) next

pub kinds_behind : (n : ℕ) → 2 ≤ n → slice_get kinds n ≡ option_map kind.Compat (slice_get tags (n - 2))
kinds_behind n le =
    let from : n ≡ 2 + (n - 2) = omega (arith, le) in
    ap (slice_get kinds) from ∙ behind_two kind.Plain kind.Canonical (map kind.Compat tags) (n - 2) ∙ slice_get-map kind.Compat tags (n - 2)

kind_at : (x : Kind) → slice_get kinds (place_of_kind x) ≡ Some x
kind_at (kind.Compat tag) = behind_two kind.Plain kind.Canonical (map kind.Compat tags) (place_of_tag tag) ∙ slice_get-map kind.Compat tags (place_of_tag tag) ∙ ap (option_map kind.Compat) (tag_at tag)
kind_at _ = refl

flag_at : (x : Flag) → slice_get flags (flag_place x) ≡ Some x
flag_at WhiteSpace = refl
flag_at _ = refl

core_at : (x : Core) → slice_get core_properties (core_place x) ≡ Some x
core_at Math = refl
core_at _ = refl

source_at : (x : SourceFile) → slice_get source_files (file_place x) ≡ Some x
source_at x = slice_get-get_or source_files (file_place x) UnicodeData (file_place_small x) ∙ ap (λ (file : SourceFile). Some file) (file_at-place x)

derived_at : (x : DerivedFile) → slice_get derived_files (place_of_derived x) ≡ Some x
derived_at CoreProperties = refl
derived_at _ = refl

folding_at : (x : Folding) → slice_get foldings (place_of_folding x) ≡ Some x
folding_at Full = refl
folding_at Simple = refl

form_at : (x : Form) → slice_get forms (place_of_form x) ≡ Some x
form_at Nfd = refl
form_at _ = refl

quick_at : (x : Quick) → slice_get quick_values (place_of_quick x) ≡ Some x
quick_at quick.Yes = refl
quick_at _ = refl

rule_at : (x : Rule) → slice_get rules (place_of_rule x) ≡ Some x
rule_at V1 = refl
rule_at _ = refl

pub enumerates_categories : IsEnumeration categories category_place
enumerates_categories = record { each = category_at; order = refl }

pub enumerates_statuses : IsEnumeration statuses status_place
enumerates_statuses = record { each = status_at; order = refl }

pub enumerates_tags : IsEnumeration tags place_of_tag
enumerates_tags = record { each = tag_at; order = refl }

pub enumerates_kinds : IsEnumeration kinds place_of_kind
enumerates_kinds = record { each = kind_at; order = refl }

pub enumerates_flags : IsEnumeration flags flag_place
enumerates_flags = record { each = flag_at; order = refl }

pub enumerates_core_properties : IsEnumeration core_properties core_place
enumerates_core_properties = record { each = core_at; order = refl }

pub enumerates_source_files : IsEnumeration source_files file_place
enumerates_source_files = record { each = source_at; order = refl }

pub enumerates_derived_files : IsEnumeration derived_files place_of_derived
enumerates_derived_files = record { each = derived_at; order = refl }

pub enumerates_foldings : IsEnumeration foldings place_of_folding
enumerates_foldings = record { each = folding_at; order = refl }

pub enumerates_forms : IsEnumeration forms place_of_form
enumerates_forms = record { each = form_at; order = refl }

pub enumerates_quick_values : IsEnumeration quick_values place_of_quick
enumerates_quick_values = record { each = quick_at; order = refl }

pub enumerates_rules : IsEnumeration rules place_of_rule
enumerates_rules = record { each = rule_at; order = refl }

pub enumerations_are_whole : EnumerationsAreWhole
enumerations_are_whole = record {
  of_category = enumerates_categories;
  of_status = enumerates_statuses;
  of_tag = enumerates_tags;
  of_kind = enumerates_kinds;
  of_flag = enumerates_flags;
  of_core = enumerates_core_properties;
  of_source = enumerates_source_files;
  of_derived = enumerates_derived_files;
  of_folding = enumerates_foldings;
  of_form = enumerates_forms;
  of_quick = enumerates_quick_values;
  of_rule = enumerates_rules;
}

-- ---- true of the list, so true of each

true_at : {X : Type 0} (p : X → Bool) (xs : List X) (i : ℕ) (x : X) → list_all p xs ≡ true → slice_get xs i ≡ Some x → p x ≡ true
true_at p [] i x all e = cc
true_at p (y ∷ xs) zero x all e = ap p (same_Some x y (sym e)) ∙ (and_parts (p y) (list_all p xs) all).0
true_at p (y ∷ xs) (suc i) x all e = true_at p xs i x (and_parts (p y) (list_all p xs) all).1 e

below_at : {X : Type 0} (xs : List X) (i : ℕ) (x : X) → slice_get xs i ≡ Some x → i < length xs
below_at [] i x e = cc
below_at (y ∷ xs) zero x e = omega arith
below_at (y ∷ xs) (suc i) x e = omega (arith, below_at xs i x e)

module _ {X : Type 0} (values : List X) (place : X → ℕ) (whole : IsEnumeration values place) where
  pub true_of_each : (p : X → Bool) → list_all p values ≡ true → (x : X) → p x ≡ true
  true_of_each p all x = true_at p values (place x) x all (whole.each x)

  pub place-below : (x : X) → place x < length values
  place-below x = below_at values (place x) x (whole.each x)

  pub place-injective : (x y : X) → place x ≡ place y → x ≡ y
  place-injective x y e = same_Some x y (sym (whole.each x) ∙ ap (slice_get values) e ∙ whole.each y)

  pub value-at : (x d : X) → get_or values (place x) d ≡ x
  value-at x d = get_or_from_slice_get values (place x) x d (whole.each x)

  pub place-at : (k : ℕ) (d : X) → k < length values → place (get_or values k d) ≡ k
  place-at k d lt =
      let first : 0 + k ≡ k = omega arith in
      sym (get_or-map place values k d) ∙ ap (λ xs. get_or xs k (place d)) whole.order ∙ get_or-range_with_len 0 (length values) k (place d) lt ∙ first

  pub place-decides : (x y : X) → Decides (place x == place y) (x ≡ y)
  place-decides x y = (λ t. place-injective x y (eqb-true (place x) (place y) t), λ e. eq-eqb (place x) (place y) (ap place e))

abbrev pub are_apart : {X : Type 0} → (X → List ℕ) → List X → (X → ℕ) → Bool
are_apart text values place = list_all (λ x. position_or_len (bytes_eq (text x)) (map text values) == place x) values

module _ {X : Type 0} (values : List X) (place : X → ℕ) (text : X → List ℕ) (whole : IsEnumeration values place) (apart : are_apart text values place ≡ true) where
  found_at : (x : X) → position_or_len (bytes_eq (text x)) (map text values) ≡ place x
  found_at x =
      eqb-true (position_or_len (bytes_eq (text x)) (map text values)) (place x)
      (true_of_each values place whole (λ y. position_or_len (bytes_eq (text y)) (map text values) == place y) apart x)

  pub text-injective : (x y : X) → text x ≡ text y → x ≡ y
  text-injective x y e = place-injective values place whole x y (sym (found_at x) ∙ ap (λ t. position_or_len (bytes_eq t) (map text values)) e ∙ found_at y)
