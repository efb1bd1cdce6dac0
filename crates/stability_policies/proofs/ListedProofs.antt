-- What a report that lists nothing of some policies says of each code point.
use Rattle.std.proofs.Common.{◌≡◌, ℕ, zero, suc, ◌+◌, ◌<◌, Bool, true, false, cond, ◌&&◌, not, ◌==◌, List, [], ◌∷◌, ◌++◌, drop, map, filter, Option, Some, None, Result, Ok, Err, is_some, refl, sym, ap, subst, ◌∙◌, arith, inl, inr, bytes_eq}
use Rattle.std.specs.List.{AllByRecursion as Each, flat_map, list_all, list_any, range_with_len}
use Rattle.std.proofs.lemmas.Bool.{and_parts, cases_lt, eq-eqb, eqb-true, not-false, or_parts, true≢false}
use Rattle.std.proofs.lemmas.Slice.Eq.{bytes_eq-Decides}
use Rattle.ucd_points.specs.PlainProofs.{filter_more}
use Rattle.release_rows.specs.Releases.{ReleaseItems, rows_now}
use Rattle.ucd_facts.specs.Composites.{first_has_class_zero, is_canonical, primary}
use Rattle.ucd_facts.specs.Facts.{Facts, Sources, data_row, facts, given, kind_in}
use Rattle.ucd_facts.specs.FactsLemmas.{facts_inside, facts_outside}
use Rattle.ucd_model.specs.Forms.{nfkc}
use Rattle.ucd_points.specs.Limits.{point_count}
use Rattle.ucd_model.specs.Validity.{lacks_row}
use Rattle.ucd_model.specs.ValidityLaws.{IsValid as AllHaveRecords}
use Rattle.ucd_model.specs.ValidityProofs.{broken-none, broken-rules, valid_expands, valid_is_unbroken}
use Rattle.ucd_points.specs.declared.files.SourceFile.TheVariants.{UnicodeData}
use Rattle.ucd_facts.specs.declared.form.Bad.{Bad as Rule}
use Rattle.ucd_facts.specs.declared.form.Form.{Form}
use Rattle.ucd_facts.specs.declared.form.Form.TheVariants.{Nfkc}
use Rattle.ucd_facts.specs.declared.row.DataRow.{DataRow}
use Rattle.normalisation.specs.FormValues.{HasList, form_of}
use Rattle.normalisation.specs.FormLaws.{HasExpansion, HaveExpansions}
use Rattle.normalisation.specs.FormValueProofs.{forms_given}
use Rattle.stability_policies.specs.CommonForms.{AllAssigned, KeepsForms, ListsNone}
use Rattle.stability_policies.specs.Policies.{all_assigned, breaks, caseless, folded, place_of_policy, policies, same_list, same_mapping, sort_of}
use Rattle.stability_policies.specs.Reports.{breaks_of, is_of, report}
use Rattle.stability_policies.specs.StableForms.{FoldsAlike, IsRooted, Old, StaysNormal}
use Rattle.stability_policies.specs.Views.{IsValid}
use Rattle.stability_policies.specs.declared.breaks.Break.{Break}
use Rattle.stability_policies.specs.declared.breaks.Break.TheVariants.{At}
use Rattle.stability_policies.specs.declared.policy.Policy.{Policy}
use Rattle.stability_policies.specs.declared.policy.Policy.TheVariants.{P01, P03, P04, P05, P10}

-- ---- tests

and_left_true : (a b : Bool) → a ≡ true → (a && b) ≡ false → b ≡ false
and_left_true true b is e = e
and_left_true false b is e = cc

all_each : (p : ℕ → Bool) (s : List ℕ) → list_all p s ≡ true → Each (λ c. p c ≡ true) s
all_each p [] e = tt
all_each p (c ∷ s) e = let parts = and_parts (p c) (list_all p s) e in (parts.0, all_each p s parts.1)

none_each : (p : ℕ → Bool) (s : List ℕ) → list_any (λ c. not (p c)) s ≡ false → Each (λ c. p c ≡ true) s
none_each p [] e = tt
none_each p (c ∷ s) e = (not-false (p c) (or_parts (not (p c)) (list_any (λ d. not (p d)) s) e).0, none_each p s (or_parts (not (p c)) (list_any (λ d. not (p d)) s) e).1)

-- ---- what is not listed

any_append : {X : Type 0} (p : X → Bool) (xs ys : List X) → list_any p (xs ++ ys) ≡ false → (list_any p xs ≡ false) × (list_any p ys ≡ false)
any_append p [] ys e = (refl, e)
any_append p (x ∷ xs) ys e =
    let rest = any_append p xs ys (or_parts (p x) (list_any p (xs ++ ys)) e).1 in
    (rw ((or_parts (p x) (list_any p (xs ++ ys)) e).0, rest.0) refl, rest.1)

module _ {X : Type 0} (p : Break → Bool) (f : X → List Break) where
  first : (x : X) (xs : List X) → list_any p (flat_map f (x ∷ xs)) ≡ false → list_any p (f x) ≡ false
  first x xs e = (any_append p (f x) (flat_map f xs) e).0

  rest : (x : X) (xs : List X) → list_any p (flat_map f (x ∷ xs)) ≡ false → list_any p (flat_map f xs) ≡ false
  rest x xs e = (any_append p (f x) (flat_map f xs) e).1

  any_drop : (n : ℕ) (xs : List X) → list_any p (flat_map f xs) ≡ false → list_any p (flat_map f (drop n xs)) ≡ false
  any_drop zero xs e = e
  any_drop (suc n) [] e = e
  any_drop (suc n) (x ∷ xs) e = any_drop n xs (rest x xs e)

is_of_own : (policy : Policy) (x : ℕ) → is_of policy (At policy x) ≡ true
is_of_own policy x = eq-eqb (place_of_policy policy) (place_of_policy policy) refl

none_listed : (policy : Policy) (xs : List ℕ) → list_any (is_of policy) (map (At policy) xs) ≡ false → xs ≡ []
none_listed policy [] e = refl
none_listed policy (x ∷ xs) e = absurd (true≢false (sym (is_of_own policy x) ∙ (or_parts (is_of policy (At policy x)) (list_any (is_of policy) (map (At policy) xs)) e).0))

append_nil : {X : Type 0} (xs ys : List X) → (let l : List X = xs ++ ys in l ≡ []) → (xs ≡ []) × (ys ≡ [])
append_nil [] ys e = (refl, e)
append_nil (x ∷ xs) ys e = absurd cc

one_nil : (b : Bool) (n : ℕ) → (let l : List ℕ = cond b (n ∷ []) [] in l ≡ []) → b ≡ false
one_nil true n e = absurd cc
one_nil false n e = refl

filter_nil : (q : ℕ → Bool) (n : ℕ) → filter q (range_with_len 0 n) ≡ [] → (c : ℕ) → c < n → q c ≡ false
filter_nil q zero e c lt = absurd (omega arith)
filter_nil q (suc n) e c lt =
    let next : suc n ≡ n + 1 = omega arith in
    let parts = append_nil (filter q (range_with_len 0 n)) (cond (q n) (n ∷ []) []) (sym (filter_more q n) ∙ ap (λ k. filter q (range_with_len 0 k)) (sym next) ∙ e) in
    elim (cases_lt c n) [
      | inl less ↦ filter_nil q n parts.0 c less
      | inr le ↦ let here : c ≡ n = omega arith in ap q here ∙ one_nil (q n) n parts.1
    ]

abbrev pub IsQuiet : (ℕ → Facts) → (ℕ → Facts) → Policy → Type 0
IsQuiet O N policy = (c : ℕ) → c < point_count → breaks policy O N c ≡ false

module _ (old new : ReleaseItems) where
  abbrev O : ℕ → Facts
  O = facts (rows_now old)

  abbrev N : ℕ → Facts
  N = facts (rows_now new)

  abbrev by_policy : Policy → List Break
  by_policy policy = breaks_of policy old new

  abbrev Quiet : Policy → Type 0
  Quiet policy = IsQuiet O N policy

  listed : (policy : Policy) → ListsNone policy (report old new) → list_any (is_of policy) (flat_map by_policy policies) ≡ false
  unfolding report
  listed policy e = e

  by_points : (policy : Policy) → list_any (is_of policy) (map (At policy) (filter (breaks policy O N) (range_with_len 0 point_count))) ≡ false → Quiet policy
  by_points policy e = filter_nil (breaks policy O N) point_count (none_listed policy (filter (breaks policy O N) (range_with_len 0 point_count)) e)

  listed_at : (policy : Policy) (n : ℕ) (xs : List Policy) → drop n policies ≡ policy ∷ xs → ListsNone policy (report old new) → list_any (is_of policy) (by_policy policy) ≡ false
  listed_at policy n xs is e =
      first (is_of policy) by_policy policy xs (ap (λ (l : List Policy). list_any (is_of policy) (flat_map by_policy l)) (sym is) ∙ any_drop (is_of policy) by_policy n policies (listed policy e))

  quiet_assigned : ListsNone P01 (report old new) → Quiet P01
  quiet_assigned e = by_points P01 (listed_at P01 0 (drop 1 policies) refl e)

  quiet_class : ListsNone P03 (report old new) → Quiet P03
  quiet_class e = by_points P03 (listed_at P03 2 (drop 3 policies) refl e)

  quiet_mapping : ListsNone P04 (report old new) → Quiet P04
  quiet_mapping e = by_points P04 (listed_at P04 3 (drop 4 policies) refl e)

  quiet_composites : ListsNone P05 (report old new) → Quiet P05
  quiet_composites e = by_points P05 (listed_at P05 4 (drop 5 policies) refl e)

  quiet_foldings : ListsNone P10 (report old new) → Quiet P10
  quiet_foldings e = by_points P10 (listed_at P10 9 (drop 10 policies) refl e)

-- ---- code points with a row

point_of : (rows : Sources) (c : ℕ) → (facts rows c).assigned ≡ true → c < point_count
point_of rows c is = elim (cases_lt c point_count) [
  | inl lt ↦ lt
  | inr le ↦ absurd (true≢false (sym is ∙ ap (λ (F : Facts). F.assigned) (facts_outside rows c le)))
]

row_of : (c : ℕ) (row : Option DataRow) → is_canonical (kind_in c row) ≡ true → is_some row ≡ true
row_of c None e = absurd cc
row_of c (Some row) e = refl

rooted : (rows : Sources) (c : ℕ) → is_canonical (facts rows c).kind ≡ true → (facts rows c).assigned ≡ true
rooted rows c e = elim (cases_lt c point_count) [
  | inl lt ↦
      let here : facts rows c ≡ given rows c = facts_inside rows c lt in
      ap (λ (F : Facts). F.assigned) here ∙ row_of c (data_row (rows UnicodeData) c) (ap (λ (F : Facts). is_canonical F.kind) (sym here) ∙ e)
  | inr le ↦ absurd (true≢false (sym e ∙ ap (λ (F : Facts). is_canonical F.kind) (facts_outside rows c le)))
]

primary_rooted : (rows : Sources) (c : ℕ) → primary (facts rows) c ≡ true → (facts rows c).assigned ≡ true
primary_rooted rows c e = rooted rows c (and_parts (is_canonical (facts rows c).kind) (((facts rows c).class == 0) && (first_has_class_zero (facts rows) (facts rows c).mapping && not (facts rows c).excluded)) e).0

-- ---- what stays

kept : (a b t : Bool) → a ≡ true → b ≡ true → (a && (b && not t)) ≡ false → t ≡ true
kept a b t old new e = not-false t (and_left_true b (not t) new (and_left_true a (b && not t) old e))

mapping_members : (F : ℕ → Facts) (c : ℕ) (m : List ℕ) (b : Bool) → bytes_eq m (c ∷ []) ≡ b → Old F c → (not b && list_any (λ x. not (F x).assigned) m) ≡ false → Each (Old F) m
mapping_members F c m true is old e = subst (Each (Old F)) (sym ((bytes_eq-Decides m (c ∷ [])).0 is)) (old, tt)
mapping_members F c m false is old e = none_each (λ x. (F x).assigned) m e

gained : (p o a : Bool) → p ≡ true → o ≡ false → (p && (not o && a)) ≡ false → a ≡ false
gained true true a p o e = absurd cc
gained true false a p o e = e
gained false o a p is e = absurd cc

-- where no code point breaks the policies on forms
pub stays_by : (O N : ℕ → Facts) → IsRooted O N → IsQuiet O N P01 → IsQuiet O N P03 → IsQuiet O N P04 → IsQuiet O N P05 → StaysNormal O N
stays_by O N roots no_loss no_class no_mapping no_composite =
    let still : (c : ℕ) → Old O c → (N c).assigned ≡ true = λ c is. not-false (N c).assigned (and_left_true (O c).assigned (not (N c).assigned) is (no_loss c (roots.within c is))) in
    let mapped : (c : ℕ) → Old O c → same_mapping (O c) (N c) ≡ true = λ c is. kept (O c).assigned (N c).assigned (same_mapping (O c) (N c)) is (still c is) (no_mapping c (roots.within c is)) in
    record {
      class = λ c is. eqb-true (O c).class (N c).class (kept (O c).assigned (N c).assigned ((O c).class == (N c).class) is (still c is) (no_class c (roots.within c is)));
      sort = λ c is. eqb-true (sort_of (O c).kind) (sort_of (N c).kind) (and_parts (sort_of (O c).kind == sort_of (N c).kind) (bytes_eq (O c).mapping (N c).mapping) (mapped c is)).0;
      mapping = λ c is. (bytes_eq-Decides (O c).mapping (N c).mapping).0 (and_parts (sort_of (O c).kind == sort_of (N c).kind) (bytes_eq (O c).mapping (N c).mapping) (mapped c is)).1;
      members = roots.members;
      composed = λ c is.
          let row : Old O c = roots.composites c is in
          (row, not-false (primary N c) (and_left_true (primary O c) (not (primary N c)) is (or_parts (primary O c && not (primary N c)) _ (no_composite c (roots.within c row))).0));
      composing = λ c is none. gained (primary N c) (primary O c) (all_assigned O (N c).mapping) is none (or_parts (primary O c && not (primary N c)) _ (no_composite c (roots.later c is))).1;
    }

module _ (old new : ReleaseItems) where
  abbrev F : ℕ → Facts
  F = facts (rows_now old)

  abbrev G : ℕ → Facts
  G = facts (rows_now new)

  have_records : IsValid old → AllHaveRecords F
  have_records valid = (valid_is_unbroken F).1 valid

  pub old_expansions : (compat : Bool) → IsValid old → HaveExpansions F compat
  old_expansions compat valid c lt = valid_expands F compat (have_records valid) c lt

  members_old : IsValid old → (c : ℕ) → Old F c → Each (Old F) (F c).mapping
  members_old valid c is =
      let lt : c < point_count = point_of (rows_now old) c is in
      let rules = broken-rules F c (broken-none F c (have_records valid c lt)) in
      let first : lacks_row F c (F c).mapping ≡ false = (or_parts (lacks_row F c (F c).mapping) _ rules.rows).0 in
      mapping_members F c (F c).mapping (bytes_eq (F c).mapping (c ∷ [])) refl is first

  pub has_rows : IsValid old → IsRooted F G
  has_rows valid = record {
    within = point_of (rows_now old);
    members = members_old valid;
    composites = primary_rooted (rows_now old);
    later = λ c is. point_of (rows_now new) c (primary_rooted (rows_now new) c is);
  }

  pub stays_normal : IsValid old → KeepsForms (report old new) → StaysNormal F G
  stays_normal valid keeps =
      stays_by F G (has_rows valid) (quiet_assigned old new keeps.assigned) (quiet_class old new keeps.class) (quiet_mapping old new keeps.mapping) (quiet_composites old new keeps.composites)

  pub stays_assigned : KeepsForms (report old new) → (c : ℕ) → Old F c → Old G c
  stays_assigned keeps c is = not-false (G c).assigned (and_left_true (F c).assigned (not (G c).assigned) is (quiet_assigned old new keeps.assigned c (point_of (rows_now old) c is)))

  pub folds_alike : ListsNone P10 (report old new) → FoldsAlike F G
  folds_alike none c is =
      not-false (same_list (caseless F (c ∷ [])) (caseless G (c ∷ [])))
      (and_left_true (F c).assigned (not (same_list (caseless F (c ∷ [])) (caseless G (c ∷ [])))) is (quiet_foldings old new none c (point_of (rows_now old) c is)))

  pub each_old : (s : List ℕ) → AllAssigned F s → Each (Old F) s
  each_old s e = all_each (λ c. (F c).assigned) s e

  -- ---- lists that are there

  folded_given : (r : Result (List ℕ) Rule) → HasList r → HasList (folded F r)
  folded_given (Ok xs) has = (_, refl)
  folded_given (Err rule) has = absurd (let h = has.1 in cc)

  old_expand : (compat : Bool) → IsValid old → (s : List ℕ) → Each (Old F) s → Each (HasExpansion F compat) s
  old_expand compat valid [] e = tt
  old_expand compat valid (c ∷ s) e = (old_expansions compat valid c (point_of (rows_now old) c e.0), old_expand compat valid s e.1)

  pub form_given : IsValid old → (form : Form) (s : List ℕ) → Each (Old F) s → HasList (form_of F form s)
  form_given valid form s e = forms_given F s (λ compat. old_expand compat valid s e) form

  pub caseless_given : IsValid old → (s : List ℕ) → Each (Old F) s → HasList (caseless F s)
  caseless_given valid s e = folded_given (nfkc F s) (form_given valid Nfkc s e)
