-- A derivation asks about code points alone that are reached from its own.
-- asked_are_reached   the law of the same name
use Rattle.std.proofs.Common.{◌≡◌, ap, ℕ, zero, suc, Bool, true, false, cond, not, nat_le, ◌==◌, length, map, List, [], ◌∷◌, ◌++◌, Option, Some, None, Result, Ok, Err, refl, sym, subst, inl, inr, option_and_then}
use Rattle.std.specs.List.{flat_map, range_with_len}
use Rattle.std.proofs.lemmas.Bool.{true≢false, or_cases, or_left, or_right, eq-eqb}
use Rattle.ucd_model.specs.CanonicalOrder.{class_of}
use Rattle.ucd_model.specs.Casing.{folded, fold_of}
use Rattle.ucd_facts.specs.CompositeLaws.{IsPair}
use Rattle.ucd_facts.specs.CompositeProofs.{pair_is_least}
use Rattle.ucd_facts.specs.Composites.{pair_of, primary}
use Rattle.ucd_model.specs.Composition.{Split, composed_with, compose, compose_onto, is_open, last_starter, reached, starter_behind, where_open, with_composite, with_point}
use Rattle.ucd_facts.specs.Enumerations.{foldings}
use Rattle.ucd_facts.specs.Expansion.{counts, counted}
use Rattle.ucd_facts.specs.Facts.{Facts, image_points}
use Rattle.ucd_model.specs.FoldRounds.{drop_ignorable, round, rounds, short_fold, short_form, short_nfkc}
use Rattle.ucd_model.specs.Forms.{composed, decomposed, expansions, in_order, nfkc}
use Rattle.ucd_facts.specs.Predicates.{default_ignorable}
use Rattle.ucd_model.specs.Sameness.{is_in}
use Rattle.ucd_facts.specs.declared.folding.Folding.{Folding}
use Rattle.ucd_facts.specs.declared.folding.Folding.TheVariants.{Full, Simple}
use Rattle.ucd_facts.specs.declared.form.Bad.{Bad as Rule}
use Rattle.ucd_facts.specs.AnswerProofs.{queries_are_told}
use Rattle.ucd_facts.specs.Answers.{is_asked, same_query, Each}
use Rattle.ucd_facts.specs.declared.query.Query.{Query}
use Rattle.query_laws.specs.ExpansionProofs.{expansions_leaves}
use Rattle.query_laws.specs.FormProofs.{Each-order}
use Rattle.query_laws.specs.ListProofs.{Each-both, Each-filter, Each-if, Each-left, Each-right, every}
use Rattle.mention_index.specs.Reached.{AskedAreReached, Reached, about, members_of}
use Rattle.mention_index.specs.Reached.Reached.{itself, member, composite}
use Rattle.query_laws.specs.Questions.{asked, asks, composing_asks, composite_asks, facts_ask, folding_asks, foldings_ask, last_round, pair_queries, round_asks_at, rounds_ask, row_queries, tree, tried_at, tries, tries_onto, whole_tree}

-- ---- lists

each_in : (P : ℕ → Type 0) (xs : List ℕ) → ((x : ℕ) → is_in xs x ≡ true → P x) → Each P xs
each_in P [] f = tt
each_in P (x ∷ xs) f = (f x (or_left (x == x) (is_in xs x) (eq-eqb x x refl)), each_in P xs (λ y e. f y (or_right (x == y) (is_in xs y) e)))

each_flat : {A B : Type 0} (P : A → Type 0) (Q : B → Type 0) (f : A → List B) → ((x : A) → P x → Each Q (f x)) → (xs : List A) → Each P xs → Each Q (flat_map f xs)
each_flat P Q f each [] e = tt
each_flat P Q f each (x ∷ xs) e = Each-both Q (f x) (flat_map f xs) (each x e.0) (each_flat P Q f each xs e.1)

each_map : (P : ℕ → Type 0) (f : ℕ → ℕ) → ((x : ℕ) → P x → P (f x)) → (xs : List ℕ) → Each P xs → Each P (map f xs)
each_map P f each [] e = tt
each_map P f each (x ∷ xs) e = (each x e.0, each_map P f each xs e.1)

one_asked : (P : Query → Type 0) (Q : List Query) → Each P Q → (q : Query) → is_asked Q q ≡ true → P q
one_asked P [] e q a = absurd (true≢false (sym a))
one_asked P (r ∷ Q) e q a =
    elim (or_cases (same_query q r) (is_asked Q q) a) [
      | inl here ↦ subst P (sym ((queries_are_told q r).0 here)) e.0
      | inr later ↦ one_asked P Q e.1 q later
    ]

-- ---- a list that is cut at its last starter

abbrev Whole : List ℕ → Option Split → Type 0
Whole xs None = Unit {0}
Whole xs (Some cut) = cut.before ++ cut.starter ∷ cut.after ≡ xs

whole_if : (b : Bool) (x : ℕ) (xs : List ℕ) → Whole (x ∷ xs) (cond b (Some (record { before = []; starter = x; after = xs })) None)
whole_if true x xs = refl
whole_if false x xs = tt

whole_behind : (f : ℕ → ℕ) (x : ℕ) (xs : List ℕ) (cut : Option Split) → Whole xs cut → Whole (x ∷ xs) (starter_behind f x xs cut)
whole_behind f x xs (Some cut) is = ap (λ (ys : List ℕ). x ∷ ys) is
whole_behind f x xs None is = whole_if (f x == 0) x xs

whole_last : (f : ℕ → ℕ) (xs : List ℕ) → Whole xs (last_starter f xs)
whole_last f [] = tt
whole_last f (x ∷ xs) = whole_behind f x xs (last_starter f xs) (whole_last f xs)

whole_open : (b : Bool) (xs : List ℕ) (cut : Split) → Whole xs (Some cut) → Whole xs (cond b (Some cut) None)
whole_open true xs cut is = is
whole_open false xs cut is = tt

whole_where : (f : ℕ → ℕ) (y : ℕ) (xs : List ℕ) (cut : Option Split) → Whole xs cut → Whole xs (where_open f y cut)
whole_where f y xs (Some cut) is = whole_open (is_open f y cut.after) xs cut is
whole_where f y xs None is = tt

module _ (P : ℕ → Type 0) (f : ℕ → ℕ) (pair : ℕ → ℕ → Option ℕ) (made : (s y q : ℕ) → P s → pair s y ≡ Some q → P q) where
  composite_each : (xs : List ℕ) (y : ℕ) (cut : Split) (q : Option ℕ) → pair cut.starter y ≡ q → P y → Each P xs → Each P (cut.before ++ cut.starter ∷ cut.after) → Each P (with_composite xs y cut q)
  composite_each xs y cut (Some q) is last e parts =
      let behind = Each-right P cut.before (cut.starter ∷ cut.after) parts in
      Each-both P cut.before (q ∷ cut.after) (Each-left P cut.before (cut.starter ∷ cut.after) parts) (made cut.starter y q behind.0 is, behind.1)
  composite_each xs y cut None is last e parts = Each-both P xs (y ∷ []) e (last, tt)

  point_each : (xs : List ℕ) (y : ℕ) (cut : Option Split) → Whole xs cut → P y → Each P xs → Each P (with_point pair xs y cut)
  point_each xs y (Some cut) is last e = composite_each xs y cut (pair cut.starter y) refl last e (subst (Each P) (sym is) e)
  point_each xs y None is last e = Each-both P xs (y ∷ []) e (last, tt)

  -- what holds of the members holds of those of the list with one more point, where it goes from a first member to the composite
  composed_each : (xs : List ℕ) (y : ℕ) → P y → Each P xs → Each P (composed_with f pair xs y)
  composed_each xs y last e = point_each xs y (reached f xs y) (whole_where f y xs (last_starter f xs) (whole_last f xs)) last e

starter_each : (P : ℕ → Type 0) (xs : List ℕ) (cut : Split) → Whole xs (Some cut) → Each P xs → P cut.starter
starter_each P xs cut is e = (Each-right P cut.before (cut.starter ∷ cut.after) (subst (Each P) (sym is) e)).0

module _ (F : ℕ → Facts) (c : ℕ) where
  abbrev P : ℕ → Type 0
  P x = Reached F c x

  abbrev About : Query → Type 0
  About q = Reached F c (about q)

  -- where an optional list, or a list in the place of which a rule may stand, has members, they are reached
  abbrev SomeReached : Option (List ℕ) → Type 0
  SomeReached None = Unit {0}
  SomeReached (Some xs) = Each P xs

  abbrev OkReached : Result (List ℕ) Rule → Type 0
  OkReached (Err rule) = Unit {0}
  OkReached (Ok xs) = Each P xs

  rows : (xs : List ℕ) → Each P xs → Each About (row_queries xs)
  rows [] e = tt
  rows (x ∷ xs) e = (e.0, rows xs e.1)

  -- ---- the members of mappings

  all_members : (d : ℕ) → P d → Each P (members_of d (F d))
  all_members d r = each_in P (members_of d (F d)) (λ x e. member d x e r)

  mapping_reached : (d : ℕ) → P d → Each P (F d).mapping
  mapping_reached d r = Each-left P (F d).mapping _ (all_members d r)

  simple_reached : (d : ℕ) → P d → P (F d).simple_fold
  simple_reached d r = (Each-right P (F d).mapping _ (all_members d r)).1.1.1.0

  fold_reached : (d : ℕ) → P d → Each P (fold_of F d)
  fold_reached d r =
      let G : Facts = F d in
      let last : List ℕ = image_points d G.fold ++ [] in
      let later : List ℕ = image_points d G.title ++ last in
      let more : List ℕ = image_points d G.lower ++ later in
      let images : Each P (image_points d G.upper ++ more) = (Each-right P G.mapping _ (all_members d r)).1.1.1.1 in
      Each-left P (image_points d G.fold) [] (Each-right P (image_points d G.title) last (Each-right P (image_points d G.lower) later (Each-right P (image_points d G.upper) more images)))

  -- ---- the forms

  tree_reached : (compat : Bool) (n d : ℕ) → P d → Each P (tree F compat n d)
  tree_reached compat zero d r = tt
  tree_reached compat (suc n) d r =
      (r, each_flat P P (tree F compat n) (tree_reached compat n) (counted F compat d) (Each-if P (counts compat (F d).kind) (F d).mapping [] (mapping_reached d r) tt))

  whole_reached : (compat : Bool) (d : ℕ) → P d → Each P (whole_tree F compat d)
  unfolding whole_tree
  whole_reached compat d r = tree_reached compat 8 d r

  made : (s y q : ℕ) → P s → pair_of F s y ≡ Some q → P q
  made s y q r e =
      let least = subst (IsPair F s y) e (pair_is_least F s y) in
      composite s y q least.0 r

  tried_reached : (done : List ℕ) (y : ℕ) (cut : Option Split) → Whole done cut → Each P done → Each About (tried_at cut y)
  tried_reached done y (Some cut) is e = (starter_each P done cut is e, tt)
  tried_reached done y None is e = tt

  next_reached : (done : List ℕ) (y : ℕ) → P y → Each P done → Each P (composed_with (class_of F) (pair_of F) done y)
  next_reached done y r e = composed_each P (class_of F) (pair_of F) made done y r e

  tries_reached : (done rest : List ℕ) → Each P done → Each P rest → Each About (tries_onto (class_of F) (pair_of F) done rest)
  tries_reached done [] d r = tt
  tries_reached done (y ∷ rest) d r =
      let next : List ℕ = composed_with (class_of F) (pair_of F) done y in
      let cut : Option Split = reached (class_of F) done y in
      let whole : Whole done cut = whole_where (class_of F) y done (last_starter (class_of F) done) (whole_last (class_of F) done) in
      Each-both About (tried_at cut y) (tries_onto (class_of F) (pair_of F) next rest) (tried_reached done y cut whole d) (tries_reached next rest (next_reached done y r.0 d) r.1)

  compose_reached : (done rest : List ℕ) → Each P done → Each P rest → Each P (compose_onto (class_of F) (pair_of F) done rest)
  compose_reached done [] d r = d
  compose_reached done (y ∷ rest) d r = compose_reached (composed_with (class_of F) (pair_of F) done y) rest (next_reached done y r.0 d) r.1

  ordered_reached : (r : Result (List ℕ) Rule) → OkReached r → OkReached (in_order F r)
  ordered_reached (Ok xs) e = Each-order P (class_of F) xs e
  ordered_reached (Err rule) e = tt

  composed_reached : (r : Result (List ℕ) Rule) → OkReached r → OkReached (composed F r)
  composed_reached (Ok xs) e = compose_reached [] xs tt e
  composed_reached (Err rule) e = tt

  composing_reached : (r : Result (List ℕ) Rule) → OkReached r → Each About (composing_asks F r)
  composing_reached (Ok xs) e =
      Each-both About (tries (class_of F) (pair_of F) xs) (row_queries (compose (class_of F) (pair_of F) xs)) (tries_reached [] xs tt e) (rows (compose (class_of F) (pair_of F) xs) (compose_reached [] xs tt e))
  composing_reached (Err rule) e = tt

  trees_reached : (compat : Bool) (s : List ℕ) → Each P s → Each P (flat_map (whole_tree F compat) s)
  trees_reached compat s e = each_flat P P (whole_tree F compat) (whole_reached compat) s e

  leaves : (r : Result (List ℕ) Rule) → ((xs : List ℕ) → r ≡ Ok xs → Each P xs) → OkReached r
  leaves (Ok xs) each = each xs refl
  leaves (Err rule) each = tt

  decomposed_reached : (compat : Bool) (s : List ℕ) → Each P s → OkReached (decomposed F compat s)
  decomposed_reached compat s e = ordered_reached (expansions F compat s) (leaves (expansions F compat s) (λ xs is. expansions_leaves P F compat s xs (trees_reached compat s e) is))

  asks_reached : (compat : Bool) (s : List ℕ) → Each P s → Each About (asks F compat s)
  asks_reached compat s e =
      Each-both About (row_queries (flat_map (whole_tree F compat) s)) (composing_asks F (decomposed F compat s)) (rows (flat_map (whole_tree F compat) s) (trees_reached compat s e))
      (composing_reached (decomposed F compat s) (decomposed_reached compat s e))

  nfkc_reached : (s : List ℕ) → Each P s → OkReached (nfkc F s)
  nfkc_reached s e = composed_reached (decomposed F true s) (decomposed_reached true s e)

  -- ---- the rounds

  folded_reached : (folding : Folding) (xs : List ℕ) → Each P xs → Each P (folded folding F xs)
  folded_reached Full xs e = each_flat P P (fold_of F) fold_reached xs e
  folded_reached Simple xs e = each_map P (λ x. (F x).simple_fold) simple_reached xs e

  dropped_reached : (folding : Folding) (xs : List ℕ) → Each P xs → Each P (drop_ignorable F (folded folding F xs))
  dropped_reached folding xs e = Each-filter P (λ x. not (default_ignorable x (F x))) (folded folding F xs) (folded_reached folding xs e)

  folding_reached : (folding : Folding) (r : Result (List ℕ) Rule) → OkReached r → Each About (folding_asks folding F r)
  folding_reached folding (Ok xs) e =
      Each-both About (row_queries (folded folding F xs)) (asks F true (drop_ignorable F (folded folding F xs))) (rows (folded folding F xs) (folded_reached folding xs e))
      (asks_reached true (drop_ignorable F (folded folding F xs)) (dropped_reached folding xs e))
  folding_reached folding (Err rule) e = tt

  round_asks_reached : (folding : Folding) (r : Option (List ℕ)) → SomeReached r → Each About (round_asks_at folding F r)
  round_asks_reached folding (Some s) e = Each-both About (asks F true s) (folding_asks folding F (nfkc F s)) (asks_reached true s e) (folding_reached folding (nfkc F s) (nfkc_reached s e))
  round_asks_reached folding None e = tt

  short_if : (b : Bool) (xs : List ℕ) → Each P xs → SomeReached (cond b (Some xs) None)
  short_if true xs e = e
  short_if false xs e = tt

  short_reached : (r : Result (List ℕ) Rule) → OkReached r → SomeReached (short_form r)
  short_reached (Ok xs) e = short_if (nat_le (length xs) 255) xs e
  short_reached (Err rule) e = tt

  then_reached : (f : List ℕ → Option (List ℕ)) → ((xs : List ℕ) → Each P xs → SomeReached (f xs)) → (r : Option (List ℕ)) → SomeReached r → SomeReached (option_and_then f r)
  then_reached f each (Some xs) e = each xs e
  then_reached f each None e = tt

  nfkc_short : (s : List ℕ) → Each P s → SomeReached (short_nfkc F s)
  nfkc_short s e = short_reached (nfkc F s) (nfkc_reached s e)

  round_reached : (folding : Folding) (s : List ℕ) → Each P s → SomeReached (round folding F s)
  round_reached folding s e =
      then_reached (short_nfkc F) nfkc_short (option_and_then (short_fold folding F) (short_nfkc F s))
      (then_reached (short_fold folding F) (λ xs r. short_if (nat_le (length (drop_ignorable F (folded folding F xs))) 255) (drop_ignorable F (folded folding F xs)) (dropped_reached folding xs r)) (short_nfkc F s) (nfkc_short s e))

  rounds_reached : (folding : Folding) (n : ℕ) → SomeReached (rounds folding F n (c ∷ []))
  rounds_reached folding zero = (itself, tt)
  rounds_reached folding (suc n) = then_reached (round folding F) (round_reached folding) (rounds folding F n (c ∷ [])) (rounds_reached folding n)

  all_rounds : (folding : Folding) (last : Option ℕ) → Each About (rounds_ask folding F c last)
  all_rounds folding (Some last) =
      each_flat (λ _. Unit {0}) About (λ i. round_asks_at folding F (rounds folding F i (c ∷ []))) (λ i e. round_asks_reached folding (rounds folding F i (c ∷ [])) (rounds_reached folding i)) (range_with_len 0 (suc last))
      (every (λ _. Unit {0}) (λ _. tt) (range_with_len 0 (suc last)))
  all_rounds folding None = tt

  all_foldings : Each About (foldings_ask F c)
  all_foldings =
      each_flat (λ _. Unit {0}) About (λ folding. rounds_ask folding F c (last_round folding F c)) (λ folding e. all_rounds folding (last_round folding F c)) foldings (every (λ _. Unit {0}) (λ _. tt) foldings)

  -- ---- the derivation

  own_facts : Each About (facts_ask F c)
  own_facts = (itself, (itself, rows (members_of c (F c)) (all_members c itself)))

  pair_reached : (m : List ℕ) → Each P m → Each About (pair_queries m)
  pair_reached [] e = tt
  pair_reached (s ∷ []) e = tt
  pair_reached (s ∷ y ∷ []) e = (e.0, tt)
  pair_reached (s ∷ y ∷ z ∷ m) e = tt

  all_asked : Each About (asked F c)
  unfolding asked
  all_asked =
      let foldings_put : List Query = foldings_ask F c in
      let compat_put : List Query = asks F true (c ∷ []) ++ foldings_put in
      let canonical_put : List Query = asks F false (c ∷ []) ++ compat_put in
      let own : Each P (c ∷ []) = (itself, tt) in
      Each-both About (facts_ask F c) (composite_asks F c ++ canonical_put) own_facts
      (Each-both About (composite_asks F c) canonical_put (Each-if About (primary F c) (pair_queries (F c).mapping) [] (pair_reached (F c).mapping (mapping_reached c itself)) tt)
      (Each-both About (asks F false (c ∷ [])) compat_put (asks_reached false (c ∷ []) own) (Each-both About (asks F true (c ∷ [])) foldings_put (asks_reached true (c ∷ []) own) all_foldings)))

pub asked_are_reached : AskedAreReached
asked_are_reached F c q a = one_asked (λ r. Reached F c (about r)) (asked F c) (all_asked F c) q a
