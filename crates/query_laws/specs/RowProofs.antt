-- What is made of the facts of the members of a list is the same where these are.
-- list_any-same, where_same   a test of some member, and of a list that is there
-- lacks_same                  whether a mapping has a member without a row
-- zero_class_same, excludes_same, composite_same, hidden_same   what is asked of a composite's mapping
-- lower_same, upper_same, title_same, changed_same, casemaps_same   case mappings, and whether they change the list
-- continues_same, starts_same   whether the list continues or starts an identifier
use Rattle.std.proofs.Common.{◌≡◌, ℕ, Bool, true, false, cond, ◌&&◌, not, ◌==◌, List, [], ◌∷◌, ◌++◌, Result, Ok, Err, refl, sym, ap, ◌∙◌, bytes_eq}
use Rattle.std.specs.List.{flat_map, list_any}
use Rattle.ucd_model.specs.MemberProofs.{list_all-same}
use Rattle.ucd_model.specs.Casing.{lower_of, upper_of, title_of, lower, upper, title, changes, casemaps, where_form}
use Rattle.ucd_facts.specs.Composites.{first_has_class_zero}
use Rattle.ucd_facts.specs.Facts.{Facts, image_points}
use Rattle.ucd_model.specs.Identifiers.{continues, starts}
use Rattle.ucd_facts.specs.Predicates.{cased, id_start, id_continue}
use Rattle.ucd_model.specs.QuickChecks.{excludes_mapping}
use Rattle.ucd_model.specs.Validity.{lacks_row, composite_of, is_other}
use Rattle.ucd_facts.specs.declared.form.Bad.{Bad as Rule}
use Rattle.ucd_facts.specs.Answers.{SameAnswer, Each}
use Rattle.query_laws.specs.ExpansionProofs.{SameRows}
use Rattle.query_laws.specs.ListProofs.{Each-left, Each-right, Each-to, flat_map-same}
use Rattle.query_laws.specs.Questions.{pair_queries}

pub list_any-same : {X : Type 0} (p q : X → Bool) (xs : List X) → Each (λ x. p x ≡ q x) xs → list_any p xs ≡ list_any q xs
list_any-same p q [] e = refl
list_any-same p q (x ∷ xs) e = rw (e.0, list_any-same p q xs e.1) refl

pub where_same : (p q : List ℕ → Bool) (r : Result (List ℕ) Rule) → ((xs : List ℕ) → r ≡ Ok xs → p xs ≡ q xs) → where_form p r ≡ where_form q r
where_same p q (Ok xs) e = e xs refl
where_same p q (Err rule) e = refl

-- ---- what is made of rows

module _ (F G : ℕ → Facts) where
  abbrev Rows : List ℕ → Type 0
  Rows xs = SameRows F G xs

  unassigned_same : (m : List ℕ) → Rows m → list_any (λ x. not (G x).assigned) m ≡ list_any (λ x. not (F x).assigned) m
  unassigned_same m e = list_any-same (λ x. not (G x).assigned) (λ x. not (F x).assigned) m (Each-to (λ x. F x ≡ G x) (λ x. not (G x).assigned ≡ not (F x).assigned) (λ x same. ap (λ (facts : Facts). not facts.assigned) (sym same)) m e)

  pub lacks_same : (c : ℕ) (ms : List (List ℕ)) → Rows (flat_map (λ m. m) ms) → list_any (lacks_row G c) ms ≡ list_any (lacks_row F c) ms
  lacks_same c [] e = refl
  lacks_same c (m ∷ ms) e =
      let here : lacks_row G c m ≡ lacks_row F c m = ap (λ b. not (bytes_eq m (c ∷ [])) && b) (unassigned_same m (Each-left (λ x. F x ≡ G x) m (flat_map (λ m. m) ms) e)) in
      rw (here, lacks_same c ms (Each-right (λ x. F x ≡ G x) m (flat_map (λ m. m) ms) e)) refl

  pub zero_class_same : (m : List ℕ) → Rows m → first_has_class_zero G m ≡ first_has_class_zero F m
  zero_class_same (s ∷ y ∷ []) e = ap (λ (facts : Facts). facts.class == 0) (sym e.0)
  zero_class_same _ e = refl

  pub excludes_same : (c : ℕ) (m : List ℕ) → F c ≡ G c → Rows m → excludes_mapping G c m ≡ excludes_mapping F c m
  excludes_same c (s ∷ y ∷ []) own e = ap (λ (facts : Facts). not ((facts.class == 0) && ((G s).class == 0))) (sym own) ∙ ap (λ (facts : Facts). not (((F c).class == 0) && (facts.class == 0))) (sym e.0)
  excludes_same c _ own e = refl

  pub composite_same : (m : List ℕ) → Each (SameAnswer F G) (pair_queries m) → composite_of G m ≡ composite_of F m
  composite_same (s ∷ y ∷ []) e = sym e.0
  composite_same _ e = refl

  pub hidden_same : (b : Bool) (c : ℕ) (m : List ℕ) → Each (SameAnswer F G) (cond b (pair_queries m) []) → (b && is_other c (composite_of G m)) ≡ (b && is_other c (composite_of F m))
  hidden_same true c m e = ap (is_other c) (composite_same m e)
  hidden_same false c m e = refl

  pub lower_same : (xs : List ℕ) → Rows xs → lower G xs ≡ lower F xs
  lower_same xs e = flat_map-same (lower_of G) (lower_of F) xs (Each-to (λ x. F x ≡ G x) (λ x. lower_of G x ≡ lower_of F x) (λ x same. ap (λ (facts : Facts). image_points x facts.lower) (sym same)) xs e)

  pub upper_same : (xs : List ℕ) → Rows xs → upper G xs ≡ upper F xs
  upper_same xs e = flat_map-same (upper_of G) (upper_of F) xs (Each-to (λ x. F x ≡ G x) (λ x. upper_of G x ≡ upper_of F x) (λ x same. ap (λ (facts : Facts). image_points x facts.upper) (sym same)) xs e)

  pub title_same : (xs : List ℕ) → Rows xs → title G xs ≡ title F xs
  title_same [] e = refl
  title_same (x ∷ xs) e =
      ap (λ (facts : Facts). cond (cased facts) (image_points x facts.title ++ lower G xs) (x ∷ title G xs)) (sym e.0)
      ∙ ap (λ t. cond (cased (F x)) (title_of F x ++ t) (x ∷ title G xs)) (lower_same xs e.1)
      ∙ ap (λ t. cond (cased (F x)) (title_of F x ++ lower F xs) (x ∷ t)) (title_same xs e.1)

  pub changed_same : (f g : List ℕ → List ℕ) (xs : List ℕ) → f xs ≡ g xs → changes f xs ≡ changes g xs
  changed_same f g xs e = ap (λ t. not (bytes_eq t xs)) e

  pub casemaps_same : (xs : List ℕ) → Rows xs → casemaps G xs ≡ casemaps F xs
  casemaps_same xs e = rw (lower_same xs e, upper_same xs e, title_same xs e) refl

  pub continues_same : (xs : List ℕ) → Rows xs → continues G xs ≡ continues F xs
  continues_same xs e = list_all-same (λ x. id_continue (G x)) (λ x. id_continue (F x)) xs (Each-to (λ x. F x ≡ G x) (λ x. id_continue (G x) ≡ id_continue (F x)) (λ x same. ap id_continue (sym same)) xs e)

  pub starts_same : (xs : List ℕ) → Rows xs → starts G xs ≡ starts F xs
  starts_same [] e = refl
  starts_same (x ∷ xs) e = ap (λ (facts : Facts). id_start facts && continues G xs) (sym e.0) ∙ ap (λ b. id_start (F x) && b) (continues_same xs e.1)
