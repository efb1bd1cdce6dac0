-- Proofs of the laws of equality as a test.
-- members_are_told, records_are_told, facts_are_told, sets_are_told, kept_records_are_told   the laws of the same names
-- same_image-decides, same_cores-decides, same_flags-decides, same_kind-decides   the parts of the tests decide equality
use Rattle.std.proofs.Common.{◌≡◌, ℕ, zero, suc, ◌<◌, Bool, true, ◌&&◌, ◌==◌, List, [], ◌∷◌, length, slice_index_or, refl, sym, ap, arith, bytes_eq, subst}
use mathlib.Core.Path.{fun_ext}
use Rattle.std.specs.Bool.{Decides, beq}
use Rattle.std.specs.Cmp.{booleans_Decides, unsigned_Decides}
use Rattle.std.specs.List.{Contains, list_all}
use Rattle.std.proofs.lemmas.Bool.{true≢false, eqb-true, eq-eqb, or_left, or_right, and_from}
use Rattle.std.proofs.lemmas.Bool.Decides.{Decides-and}
use Rattle.std.proofs.lemmas.Slice.Eq.{bytes_eq-Decides}
use Rattle.std.proofs.lemmas.List.Folds.{Any-from_list_any}
use Rattle.ucd_facts.specs.Enumerations.{categories, kinds, place_of_kind, flags, quick_values, place_of_quick}
use Rattle.ucd_facts.specs.EnumerationProofs.{enumerates_categories, enumerates_kinds, enumerates_flags, enumerates_core_properties, enumerates_quick_values, true_of_each, place-decides}
use Rattle.ucd_facts.specs.Facts.{Facts}
use Rattle.ucd_facts.specs.declared.decomposition.Kind.{Kind}
use Rattle.ucd_facts.specs.declared.image.Image.{Image}
use Rattle.ucd_facts.specs.declared.image.Image.TheVariants.{Same, To}
use Rattle.ucd_facts.specs.Predicates.{category_place, core_properties}
use Rattle.ucd_model.specs.Records.{Record}
use Rattle.ucd_facts.specs.SetProofs.{core_sets_are_told, flag_sets_are_told}
use Rattle.ucd_facts.specs.Sets.{flag_place, core_place}
use Rattle.ucd_model.specs.Sameness.{is_in, same_image, same_cores, same_flags, same_record, same_row, same_simple, same_images, same_marks, same_facts, MembersAreTold, RecordsAreTold, FactsAreTold, SetsAreTold, KeptRecordsAreTold}
use Rattle.ucd_facts.specs.declared.category.Category.{Category}
use Rattle.ucd_facts.specs.declared.form.Quick.{Quick}
use Rattle.ucd_facts.specs.declared.property.Flag.{Flag}
use Rattle.ucd_facts.specs.declared.property.Core.{Core}

-- ---- members

any_contains : (xs : List ℕ) (c : ℕ) → is_in xs c ≡ true → Contains xs c
any_contains xs c e =
    let found = Any-from_list_any (λ x. x == c) xs e in
    subst (Contains xs) (eqb-true found.1 c found.4) (found.0, found.2, found.3)

contains_any : (xs : List ℕ) (k c : ℕ) → k < length xs → slice_index_or xs k c ≡ c → is_in xs c ≡ true
contains_any [] k c lt at = absurd (omega (arith, lt))
contains_any (x ∷ xs) zero c lt at = or_left (x == c) (is_in xs c) (eq-eqb x c at)
contains_any (x ∷ xs) (suc k) c lt at = or_right (x == c) (is_in xs c) (contains_any xs k c (omega (arith, lt)) at)

pub members_are_told : MembersAreTold
members_are_told xs c = (any_contains xs c, λ has. contains_any xs has.0 c has.1 has.2)

-- ---- what decides a part

decides_as : {P Q : Type 0} (r : Bool) → Decides r P → (P → Q) → (Q → P) → Decides r Q
decides_as r d f g = (λ t. f (d.0 t), λ q. d.1 (g q))

category_decides : (a b : Category) → Decides (category_place a == category_place b) (a ≡ b)
category_decides = place-decides categories category_place enumerates_categories

pub same_kind-decides : (a b : Kind) → Decides (place_of_kind a == place_of_kind b) (a ≡ b)
same_kind-decides = place-decides kinds place_of_kind enumerates_kinds

quick_decides : (a b : Quick) → Decides (place_of_quick a == place_of_quick b) (a ≡ b)
quick_decides = place-decides quick_values place_of_quick enumerates_quick_values

pub same_image-decides : (i j : Image) → Decides (same_image i j) (i ≡ j)
same_image-decides Same Same = (λ t. refl, λ e. refl)
same_image-decides Same (To b) = (λ t. absurd (true≢false (sym t)), λ e. cc)
same_image-decides (To a) Same = (λ t. absurd (true≢false (sym t)), λ e. cc)
same_image-decides (To a) (To b) = decides_as (bytes_eq a b) (bytes_eq-Decides a b) (λ e. ap (λ (points : List ℕ). To points) e) (λ (e : To a ≡ To b). cc)

all_pass : {X : Type 0} (p : X → Bool) (xs : List X) → ((x : X) → p x ≡ true) → list_all p xs ≡ true
all_pass p [] each = refl
all_pass p (x ∷ xs) each = and_from (p x) (list_all p xs) (each x) (all_pass p xs each)

pub same_cores-decides : (f g : Core → Bool) → Decides (same_cores f g) (f ≡ g)
same_cores-decides f g = (
  λ t. fun_ext (λ core. (booleans_Decides (f core) (g core)).0 (true_of_each core_properties core_place enumerates_core_properties (λ core. beq (f core) (g core)) t core)),
  λ e. all_pass (λ core. beq (f core) (g core)) core_properties (λ core. (booleans_Decides (f core) (g core)).1 (ap (λ (h : Core → Bool). h core) e)),
)

pub same_flags-decides : (f g : Flag → Bool) → Decides (same_flags f g) (f ≡ g)
same_flags-decides f g = (
  λ t. fun_ext (λ flag. (booleans_Decides (f flag) (g flag)).0 (true_of_each flags flag_place enumerates_flags (λ flag. beq (f flag) (g flag)) t flag)),
  λ e. all_pass (λ flag. beq (f flag) (g flag)) flags (λ flag. (booleans_Decides (f flag) (g flag)).1 (ap (λ (h : Flag → Bool). h flag) e)),
)

both_decide : {P Q : Type 0} {x y : Bool} → Decides x P → Decides y Q → Decides (x && y) (P × Q)
both_decide {x = x} {y = y} d e = Decides-and x y d e

-- ---- records

abbrev SameFields : Record → Record → Type 0
SameFields R S =
    (R.category ≡ S.category) × ((R.class ≡ S.class) × ((R.kind ≡ S.kind) × ((R.core ≡ S.core) × ((R.exclusion ≡ S.exclusion) × ((R.nfd ≡ S.nfd) × ((R.nfc ≡ S.nfc) × ((R.nfkd ≡ S.nfkd) × ((R.nfkc ≡ S.nfkc) × ((R.casefold ≡ S.casefold) × ((R.simple_casefold ≡ S.simple_casefold) × (R.changes_casefold ≡ S.changes_casefold)))))))))))

record_from : (R S : Record) → SameFields R S → R ≡ S
record_from R S p = λ i. record { category = p.0 i; class = p.1.0 i; kind = p.1.1.0 i; core = p.1.1.1.0 i; exclusion = p.1.1.1.1.0 i; nfd = p.1.1.1.1.1.0 i; nfc = p.1.1.1.1.1.1.0 i; nfkd = p.1.1.1.1.1.1.1.0 i; nfkc = p.1.1.1.1.1.1.1.1.0 i; casefold = p.1.1.1.1.1.1.1.1.1.0 i; simple_casefold = p.1.1.1.1.1.1.1.1.1.1.0 i; changes_casefold = p.1.1.1.1.1.1.1.1.1.1.1 i }

record_fields : (R S : Record) → R ≡ S → SameFields R S
record_fields R S e =
    (ap (λ (T : Record). T.category) e, (ap (λ (T : Record). T.class) e, (ap (λ (T : Record). T.kind) e, (ap (λ (T : Record). T.core) e, (ap (λ (T : Record). T.exclusion) e, (ap (λ (T : Record). T.nfd) e, (ap (λ (T : Record). T.nfc) e, (ap (λ (T : Record). T.nfkd) e, (ap (λ (T : Record). T.nfkc) e, (ap (λ (T : Record). T.casefold) e, (ap (λ (T : Record). T.simple_casefold) e, ap (λ (T : Record). T.changes_casefold) e)))))))))))

pub records_are_told : RecordsAreTold
records_are_told R S =
    decides_as (same_record R S)
    (both_decide (category_decides R.category S.category) (both_decide (unsigned_Decides R.class S.class) (both_decide (same_kind-decides R.kind S.kind)
    (both_decide (same_cores-decides R.core S.core) (both_decide (booleans_Decides R.exclusion S.exclusion)
    (both_decide (quick_decides R.nfd S.nfd) (both_decide (quick_decides R.nfc S.nfc) (both_decide (quick_decides R.nfkd S.nfkd) (both_decide (quick_decides R.nfkc S.nfkc)
    (both_decide (same_image-decides R.casefold S.casefold) (both_decide (same_image-decides R.simple_casefold S.simple_casefold) (booleans_Decides R.changes_casefold S.changes_casefold))))))))))))
    (record_from R S) (record_fields R S)

-- ---- facts

abbrev SameRow : Facts → Facts → Type 0
SameRow F G = (F.assigned ≡ G.assigned) × ((F.category ≡ G.category) × ((F.class ≡ G.class) × ((F.kind ≡ G.kind) × ((F.mapping ≡ G.mapping)))))

row_decides : (F G : Facts) → Decides (same_row F G) (SameRow F G)
row_decides F G = both_decide (booleans_Decides F.assigned G.assigned) (both_decide (category_decides F.category G.category) (both_decide (unsigned_Decides F.class G.class) (both_decide (same_kind-decides F.kind G.kind) (bytes_eq-Decides F.mapping G.mapping))))

abbrev SameSimple : Facts → Facts → Type 0
SameSimple F G = (F.simple_upper ≡ G.simple_upper) × ((F.simple_lower ≡ G.simple_lower) × ((F.simple_title ≡ G.simple_title) × ((F.simple_fold ≡ G.simple_fold))))

simple_decides : (F G : Facts) → Decides (same_simple F G) (SameSimple F G)
simple_decides F G = both_decide (unsigned_Decides F.simple_upper G.simple_upper) (both_decide (unsigned_Decides F.simple_lower G.simple_lower) (both_decide (unsigned_Decides F.simple_title G.simple_title) (unsigned_Decides F.simple_fold G.simple_fold)))

abbrev SameImages : Facts → Facts → Type 0
SameImages F G = (F.upper ≡ G.upper) × ((F.lower ≡ G.lower) × ((F.title ≡ G.title) × ((F.fold ≡ G.fold))))

images_decides : (F G : Facts) → Decides (same_images F G) (SameImages F G)
images_decides F G = both_decide (same_image-decides F.upper G.upper) (both_decide (same_image-decides F.lower G.lower) (both_decide (same_image-decides F.title G.title) (same_image-decides F.fold G.fold)))

abbrev SameMarks : Facts → Facts → Type 0
SameMarks F G = (F.flag ≡ G.flag) × ((F.mid_word ≡ G.mid_word) × ((F.excluded ≡ G.excluded)))

marks_decides : (F G : Facts) → Decides (same_marks F G) (SameMarks F G)
marks_decides F G = both_decide (same_flags-decides F.flag G.flag) (both_decide (booleans_Decides F.mid_word G.mid_word) (booleans_Decides F.excluded G.excluded))

abbrev SameParts : Facts → Facts → Type 0
SameParts F G = SameRow F G × (SameSimple F G × (SameImages F G × SameMarks F G))

facts_from : (F G : Facts) → SameParts F G → F ≡ G
facts_from F G p = λ i. record { assigned = p.0.0 i; category = p.0.1.0 i; class = p.0.1.1.0 i; kind = p.0.1.1.1.0 i; mapping = p.0.1.1.1.1 i; simple_upper = p.1.0.0 i; simple_lower = p.1.0.1.0 i; simple_title = p.1.0.1.1.0 i; simple_fold = p.1.0.1.1.1 i; upper = p.1.1.0.0 i; lower = p.1.1.0.1.0 i; title = p.1.1.0.1.1.0 i; fold = p.1.1.0.1.1.1 i; flag = p.1.1.1.0 i; mid_word = p.1.1.1.1.0 i; excluded = p.1.1.1.1.1 i }

facts_parts : (F G : Facts) → F ≡ G → SameParts F G
facts_parts F G e =
    ((ap (λ (H : Facts). H.assigned) e, (ap (λ (H : Facts). H.category) e, (ap (λ (H : Facts). H.class) e, (ap (λ (H : Facts). H.kind) e, ap (λ (H : Facts). H.mapping) e)))), ((ap (λ (H : Facts). H.simple_upper) e, (ap (λ (H : Facts). H.simple_lower) e, (ap (λ (H : Facts). H.simple_title) e, ap (λ (H : Facts). H.simple_fold) e))), ((ap (λ (H : Facts). H.upper) e, (ap (λ (H : Facts). H.lower) e, (ap (λ (H : Facts). H.title) e, ap (λ (H : Facts). H.fold) e))), (ap (λ (H : Facts). H.flag) e, (ap (λ (H : Facts). H.mid_word) e, ap (λ (H : Facts). H.excluded) e)))))

pub facts_are_told : FactsAreTold
facts_are_told F G =
    decides_as (same_facts F G) (both_decide (row_decides F G) (both_decide (simple_decides F G) (both_decide (images_decides F G) (marks_decides F G)))) (facts_from F G) (facts_parts F G)

-- ---- kept sets

pub sets_are_told : SetsAreTold
sets_are_told = record { core = core_sets_are_told; flag = flag_sets_are_told }

pub kept_records_are_told : KeptRecordsAreTold
kept_records_are_told a b small below e = λ i. record {
  category = ap (λ (R : Record). R.category) e i;
  class = ap (λ (R : Record). R.class) e i;
  kind = ap (λ (R : Record). R.kind) e i;
  core = core_sets_are_told a.core b.core small below (λ core. ap (λ (R : Record). R.core core) e) i;
  exclusion = ap (λ (R : Record). R.exclusion) e i;
  nfd = ap (λ (R : Record). R.nfd) e i;
  nfc = ap (λ (R : Record). R.nfc) e i;
  nfkd = ap (λ (R : Record). R.nfkd) e i;
  nfkc = ap (λ (R : Record). R.nfkc) e i;
  casefold = ap (λ (R : Record). R.casefold) e i;
  simple_casefold = ap (λ (R : Record). R.simple_casefold) e i;
  changes_casefold = ap (λ (R : Record). R.changes_casefold) e i;
}
