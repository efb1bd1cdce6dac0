-- Locality of the forms: the rows of the members and the pairs that are tried decide them.
--
-- f has canonical combining classes, and F and G the facts of each code point.
-- Each-order          what holds of the members holds of those of the ordered list
-- composites_are_starters   a primary composite has class 0
-- composing_same      lists whose members have the same classes, and whose tried pairs have the same composites, are composed
--                     alike, and the same pairs are tried
-- same_forms          the law of the same name
-- decomposed_rows, composed_rows   the members of the ordered expansions, and of these composed, have the same facts
use Rattle.std.proofs.Common.{◌≡◌, ℕ, Bool, true, ◌&&◌, not, ◌==◌, List, [], ◌∷◌, ◌++◌, Option, Some, None, Result, Ok, Err, refl, sym, ap, ◌∙◌, subst}
use Rattle.std.specs.List.{AllByRecursion, flat_map}
use Rattle.std.proofs.lemmas.Bool.{and_parts, eqb-true}
use Rattle.ucd_model.specs.CanonicalOrder.{class_of, order}
use Rattle.ucd_facts.specs.CompositeLaws.{IsPair}
use Rattle.ucd_facts.specs.CompositeProofs.{pair_is_least}
use Rattle.ucd_facts.specs.Composites.{is_canonical, first_has_class_zero, primary, pair_of}
use Rattle.ucd_model.specs.Composition.{Split, reached, with_composite, with_point, composed_with, compose_onto, compose}
use Rattle.ucd_facts.specs.Facts.{Facts}
use Rattle.ucd_model.specs.MemberProofs.{Cut, Each-append, Each-to, Each-order as order_members, order_same, composite_each, reached_parts, reached_same}
use Rattle.ucd_model.specs.Forms.{expansions, in_order, composed, decomposed}
use Rattle.ucd_facts.specs.declared.form.Bad.{Bad as Rule}
use Rattle.ucd_facts.specs.Answers.{SameAnswer, Each}
use Rattle.query_laws.specs.ExpansionProofs.{SameRows, rows_same, list_same, expansions_leaves}
use Rattle.query_laws.specs.Laws.{SameForm, SameForms}
use Rattle.query_laws.specs.ListProofs.{Each-left, Each-right, to_all, from_all}
use Rattle.query_laws.specs.Questions.{whole_tree, row_queries, tried_at, tries_onto, tries, composing_asks, asks}

-- ---- order

pub Each-order : (P : ℕ → Type 0) (f : ℕ → ℕ) (xs : List ℕ) → Each P xs → Each P (order f xs)
Each-order P f xs e = from_all P (order f xs) (order_members P f xs (to_all P xs e))

-- ---- composites

primary_class : (F : ℕ → Facts) (q : ℕ) → primary F q ≡ true → class_of F q ≡ 0
primary_class F q e =
    let inner = (and_parts (is_canonical (F q).kind) (((F q).class == 0) && (first_has_class_zero F (F q).mapping && not (F q).excluded)) e).1 in
    let zero_class = (and_parts ((F q).class == 0) (first_has_class_zero F (F q).mapping && not (F q).excluded) inner).0 in
    eqb-true (F q).class 0 zero_class

composites_are_starters : (F : ℕ → Facts) (s y q : ℕ) → pair_of F s y ≡ Some q → class_of F q ≡ 0
composites_are_starters F s y q e =
    let least = subst (IsPair F s y) e (pair_is_least F s y) in
    primary_class F q least.0.primary

module _ (F G : ℕ → Facts) where
  abbrev Same : ℕ → Type 0
  Same x = class_of F x ≡ class_of G x

  point_same : (xs : List ℕ) (y : ℕ) (cut : Option Split) → Each (SameAnswer F G) (tried_at cut y) → with_point (pair_of G) xs y cut ≡ with_point (pair_of F) xs y cut
  point_same xs y (Some cut) a = ap (with_composite xs y cut) (sym a.0)
  point_same xs y None a = refl

  composite_same : (s y q : ℕ) → pair_of F s y ≡ pair_of G s y → pair_of F s y ≡ Some q → Same q
  composite_same s y q same e = composites_are_starters F s y q e ∙ sym (composites_are_starters G s y q (sym same ∙ e))

  made_same : (xs : List ℕ) (y : ℕ) (cut : Option Split) → Each (SameAnswer F G) (tried_at cut y) → AllByRecursion Same xs → Same y → Cut Same cut → AllByRecursion Same (with_point (pair_of F) xs y cut)
  made_same xs y (Some cut) a e last c = composite_each Same (class_of F) xs y cut (pair_of F cut.starter y) (λ q made. composite_same cut.starter y q a.0 made) last e c
  made_same xs y None a e last c = Each-append Same xs (y ∷ []) e (last, tt)

  record SameComposing (done rest : List ℕ) : Type 0 where
    list : compose_onto (class_of G) (pair_of G) done rest ≡ compose_onto (class_of F) (pair_of F) done rest
    tried : tries_onto (class_of G) (pair_of G) done rest ≡ tries_onto (class_of F) (pair_of F) done rest

  composing_same : (done rest : List ℕ) → AllByRecursion Same done → AllByRecursion Same rest → Each (SameAnswer F G) (tries_onto (class_of F) (pair_of F) done rest) → SameComposing done rest
  composing_same done [] d r a = record { list = refl; tried = refl }
  composing_same done (y ∷ rest) d r a =
      let cut : Option Split = reached (class_of F) done y in
      let next : List ℕ = composed_with (class_of F) (pair_of F) done y in
      let own : Each (SameAnswer F G) (tried_at cut y) = Each-left (SameAnswer F G) (tried_at cut y) (tries_onto (class_of F) (pair_of F) next rest) a in
      let reach : reached (class_of G) done y ≡ cut = sym (reached_same (class_of F) (class_of G) done y r.0 d) in
      let point : composed_with (class_of G) (pair_of G) done y ≡ next = ap (with_point (pair_of G) done y) reach ∙ point_same done y cut own in
      let later = composing_same next rest (made_same done y cut own d r.0 (reached_parts Same (class_of F) done y d)) r.1 (Each-right (SameAnswer F G) (tried_at cut y) (tries_onto (class_of F) (pair_of F) next rest) a) in
      record {
        list = ap (λ done. compose_onto (class_of G) (pair_of G) done rest) point ∙ later.list;
        tried = ap (λ c. tried_at c y ++ tries_onto (class_of G) (pair_of G) (composed_with (class_of G) (pair_of G) done y) rest) reach
            ∙ ap (λ done. tried_at cut y ++ tries_onto (class_of G) (pair_of G) done rest) point
            ∙ ap (λ later. tried_at cut y ++ later) later.tried;
      }

  -- ---- the forms

  rows_classes : (xs : List ℕ) → SameRows F G xs → AllByRecursion Same xs
  rows_classes xs e = Each-to (λ x. F x ≡ G x) Same (λ x same. ap (λ (facts : Facts). facts.class) same) xs (to_all (λ x. F x ≡ G x) xs e)

  ordered_same : (r : Result (List ℕ) Rule) → ((xs : List ℕ) → r ≡ Ok xs → SameRows F G xs) → in_order G r ≡ in_order F r
  ordered_same (Ok xs) rows = ap (λ ys. Ok ys) (sym (order_same (class_of F) (class_of G) xs (rows_classes xs (rows xs refl))))
  ordered_same (Err rule) rows = refl

  ordered_rows : (r : Result (List ℕ) Rule) → ((xs : List ℕ) → r ≡ Ok xs → SameRows F G xs) → (ys : List ℕ) → in_order F r ≡ Ok ys → SameRows F G ys
  ordered_rows (Ok xs) rows ys e =
      let same : order (class_of F) xs ≡ ys = cc in
      subst (SameRows F G) same (Each-order (λ x. F x ≡ G x) (class_of F) xs (rows xs refl))
  ordered_rows (Err rule) rows ys e = cc

  record SameComposition (r : Result (List ℕ) Rule) : Type 0 where
    composition : composed G r ≡ composed F r
    asking : composing_asks G r ≡ composing_asks F r

  composition_same : (r : Result (List ℕ) Rule) → ((xs : List ℕ) → r ≡ Ok xs → SameRows F G xs) → Each (SameAnswer F G) (composing_asks F r) → SameComposition r
  composition_same (Ok xs) rows a =
      let tried = Each-left (SameAnswer F G) (tries (class_of F) (pair_of F) xs) (row_queries (compose (class_of F) (pair_of F) xs)) a in
      let same = composing_same [] xs tt (rows_classes xs (rows xs refl)) tried in
      record {
        composition = ap (λ ys. Ok ys) same.list;
        asking = ap (λ t. t ++ row_queries (compose (class_of G) (pair_of G) xs)) same.tried ∙ ap (λ ys. tries (class_of F) (pair_of F) xs ++ row_queries ys) same.list;
      }
  composition_same (Err rule) rows a = record { composition = refl; asking = refl }

  module _ (compat : Bool) (s : List ℕ) (a : Each (SameAnswer F G) (asks F compat s)) where
    pub tree_rows : SameRows F G (flat_map (whole_tree F compat) s)
    tree_rows = rows_same F G (flat_map (whole_tree F compat) s) (Each-left (SameAnswer F G) (row_queries (flat_map (whole_tree F compat) s)) (composing_asks F (decomposed F compat s)) a)

    composing : Each (SameAnswer F G) (composing_asks F (decomposed F compat s))
    composing = Each-right (SameAnswer F G) (row_queries (flat_map (whole_tree F compat) s)) (composing_asks F (decomposed F compat s)) a

    expansion_rows : (xs : List ℕ) → expansions F compat s ≡ Ok xs → SameRows F G xs
    expansion_rows xs e = expansions_leaves (λ x. F x ≡ G x) F compat s xs tree_rows e

    -- the members of the ordered expansions have the same facts
    pub decomposed_rows : (xs : List ℕ) → decomposed F compat s ≡ Ok xs → SameRows F G xs
    decomposed_rows xs e = ordered_rows (expansions F compat s) expansion_rows xs e

    pub form_same : SameForm F G compat s
    form_same =
        let lists = list_same F G compat s tree_rows in
        let ordered : decomposed G compat s ≡ decomposed F compat s = ap (in_order G) lists.expansions ∙ ordered_same (expansions F compat s) expansion_rows in
        let joined = composition_same (decomposed F compat s) decomposed_rows composing in
        record {
          decomposition = ordered;
          composition = ap (composed G) ordered ∙ joined.composition;
          asks = ap (λ t. row_queries t ++ composing_asks G (decomposed G compat s)) lists.trees
              ∙ ap (λ r. row_queries (flat_map (whole_tree F compat) s) ++ composing_asks G r) ordered
              ∙ ap (λ t. row_queries (flat_map (whole_tree F compat) s) ++ t) joined.asking;
        }

    composed_list : (r : Result (List ℕ) Rule) (xs : List ℕ) → Each (SameAnswer F G) (composing_asks F r) → composed F r ≡ Ok xs → SameRows F G xs
    composed_list (Ok ys) xs a e =
        let same : compose (class_of F) (pair_of F) ys ≡ xs = cc in
        subst (SameRows F G) same (rows_same F G (compose (class_of F) (pair_of F) ys) (Each-right (SameAnswer F G) (tries (class_of F) (pair_of F) ys) (row_queries (compose (class_of F) (pair_of F) ys)) a))
    composed_list (Err rule) xs a e = cc

    -- the members of these composed have the same facts
    pub composed_rows : (xs : List ℕ) → composed F (decomposed F compat s) ≡ Ok xs → SameRows F G xs
    composed_rows xs e = composed_list (decomposed F compat s) xs composing e

pub same_forms : SameForms
same_forms F G compat s a = form_same F G compat s a
