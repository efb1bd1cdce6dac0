-- What a code point without a mapping asks.
-- plain_ask_own   the law of the same name
use Rattle.std.proofs.Common.{◌≡◌, ℕ, zero, suc, Bool, true, false, cond, ◌||◌, not, ◌==◌, List, [], ◌∷◌, ◌++◌, Option, Some, None, Ok, if◌then◌else◌, refl, sym, ap, ◌∙◌, subst, ◌⊎◌, inl, inr, option_and_then}
use Rattle.std.specs.List.{flat_map, range_with_len}
use Rattle.std.proofs.lemmas.Bool.{true≢false, or_cases, or_left, or_right}
use Rattle.ucd_points.specs.PlainProofs.{either}
use Rattle.ucd_model.specs.CanonicalOrder.{class_of, order}
use Rattle.ucd_model.specs.Casing.{folded}
use Rattle.ucd_facts.specs.Composites.{primary}
use Rattle.ucd_facts.specs.Expansion.{counts, counted, alone_or_joined, expand, full}
use Rattle.ucd_facts.specs.Facts.{Facts, image_points}
use Rattle.ucd_model.specs.FoldRounds.{drop_ignorable, short_nfkc, short_fold, short, short_form, round, rounds}
use Rattle.ucd_model.specs.Forms.{decomposed, composed, nfkc}
use Rattle.ucd_facts.specs.Predicates.{default_ignorable}
use Rattle.ucd_facts.specs.Uniform.{IsPlain}
use Rattle.ucd_model.specs.Validity.{mappings}
use Rattle.ucd_facts.specs.declared.folding.Folding.{Folding}
use Rattle.ucd_facts.specs.declared.folding.Folding.TheVariants.{Full, Simple}
use Rattle.ucd_facts.specs.declared.query.Query.TheVariants.{Row, Second}
use Rattle.ucd_facts.specs.Answers.{same_query, is_asked, Each}
use Rattle.ucd_facts.specs.declared.query.Query.{Query}
use Rattle.query_laws.specs.Laws.{PlainAskOwn}
use Rattle.query_laws.specs.ListProofs.{Each-both}
use Rattle.query_laws.specs.Questions.{tree, whole_tree, row_queries, asks, folding_asks, round_asks_at, last_round, rounds_ask, foldings_ask, pair_queries, composite_asks, asked}

-- ---- questions of a point's own

abbrev IsOwn : ℕ → Query → Type 0
IsOwn c q = (q ≡ Row c) ⊎ (q ≡ Second c)

own_told : (c : ℕ) (q : Query) (Q : List Query) → Each (IsOwn c) Q → is_asked Q q ≡ true → (same_query q (Row c) || (same_query q (Second c) || false)) ≡ true
own_told c q [] e a = absurd (true≢false (sym a))
own_told c q (r ∷ Q) e a =
    elim (or_cases (same_query q r) (is_asked Q q) a) [
      | inl here ↦ elim e.0 [
        | inl row ↦ or_left (same_query q (Row c)) (same_query q (Second c) || false) (ap (same_query q) (sym row) ∙ here)
        | inr second ↦ or_right (same_query q (Row c)) (same_query q (Second c) || false) (or_left (same_query q (Second c)) false (ap (same_query q) (sym second) ∙ here))
      ]
      | inr later ↦ own_told c q Q e.1 later
    ]

absorbed : (a b r : Bool) → (r ≡ true → (a || (b || false)) ≡ true) → (a || (b || r)) ≡ (a || (b || false))
absorbed true b r e = refl
absorbed false true r e = refl
absorbed false false true e = sym (e refl)
absorbed false false false e = refl

-- ---- the forms of a point alone

module _ (F : ℕ → Facts) (c : ℕ) (p : IsPlain c (F c)) where
  unmapped : (compat : Bool) → counted F compat c ≡ []
  unmapped compat = ap (λ m. if counts compat (F c).kind then m else []) p.mapping ∙ either (counts compat (F c).kind) []

  full_alone : (compat : Bool) → full F compat c ≡ Some (c ∷ [])
  unfolding full
  full_alone compat = ap (λ m. alone_or_joined c m (expand F compat 7)) (unmapped compat)

  tree_alone : (compat : Bool) → whole_tree F compat c ≡ c ∷ []
  unfolding whole_tree
  tree_alone compat = ap (λ m. c ∷ flat_map (tree F compat 7) m) (unmapped compat)

  ordered_alone : order (class_of F) (c ∷ []) ≡ c ∷ []
  ordered_alone = either ((F c).class == 0) (c ∷ [])

  decomposed_alone : (compat : Bool) → decomposed F compat (c ∷ []) ≡ Ok (c ∷ [])
  decomposed_alone compat = rw (full_alone compat) (ap (λ zs. Ok zs) ordered_alone)

  nfkc_alone : nfkc F (c ∷ []) ≡ Ok (c ∷ [])
  nfkc_alone = ap (composed F) (decomposed_alone true)

  folded_none : (folding : Folding) → folded folding F [] ≡ []
  folded_none Full = refl
  folded_none Simple = refl

  fold_alone : (folding : Folding) → folded folding F (c ∷ []) ≡ c ∷ []
  fold_alone Full = ap (λ i. image_points c i ++ []) p.fold
  fold_alone Simple = ap (λ (x : ℕ). x ∷ []) p.simple_fold

  rows_own : (xs : List ℕ) → Each (λ x. x ≡ c) xs → Each (IsOwn c) (row_queries xs)
  rows_own [] e = tt
  rows_own (x ∷ xs) e = (inl (ap (λ (y : ℕ). Row y) e.0), rows_own xs e.1)

  asks_alone : (compat : Bool) → asks F compat (c ∷ []) ≡ Row c ∷ Row c ∷ []
  asks_alone compat = rw (tree_alone compat, decomposed_alone compat) refl

  asks_own : (compat : Bool) → Each (IsOwn c) (asks F compat (c ∷ []))
  asks_own compat = subst (Each (IsOwn c)) (sym (asks_alone compat)) (rows_own (c ∷ c ∷ []) (refl, (refl, tt)))

  -- ---- the rounds

  dropped : (b : Bool) → default_ignorable c (F c) ≡ b → drop_ignorable F (c ∷ []) ≡ cond b [] (c ∷ [])
  dropped true e = ap (λ b. cond (not b) (c ∷ []) []) e
  dropped false e = ap (λ b. cond (not b) (c ∷ []) []) e

  form_alone : short_nfkc F (c ∷ []) ≡ Some (c ∷ [])
  form_alone = ap short_form nfkc_alone

  dropped_own : (b : Bool) → default_ignorable c (F c) ≡ b → Each (IsOwn c) (asks F true (drop_ignorable F (c ∷ [])))
  dropped_own true e = subst (λ t. Each (IsOwn c) (asks F true t)) (sym (dropped true e)) tt
  dropped_own false e = subst (λ t. Each (IsOwn c) (asks F true t)) (sym (dropped false e)) (asks_own true)

  abbrev Alone : Option (List ℕ) → Type 0
  Alone r = (r ≡ Some (c ∷ [])) ⊎ (r ≡ Some [])

  -- by either folding
  module _ (folding : Folding) where
    round_folded : round folding F (c ∷ []) ≡ option_and_then (short_nfkc F) (short (drop_ignorable F (c ∷ [])))
    round_folded = ap (λ r. option_and_then (short_nfkc F) (option_and_then (short_fold folding F) r)) form_alone ∙ ap (λ t. option_and_then (short_nfkc F) (short (drop_ignorable F t))) (fold_alone folding)

    round_alone : (b : Bool) → default_ignorable c (F c) ≡ b → Alone (round folding F (c ∷ []))
    round_alone true e = inr (round_folded ∙ ap (λ t. option_and_then (short_nfkc F) (short t)) (dropped true e))
    round_alone false e = inl (round_folded ∙ ap (λ t. option_and_then (short_nfkc F) (short t)) (dropped false e) ∙ form_alone)

    round_more : (r : Option (List ℕ)) → Alone r → Alone (option_and_then (round folding F) r)
    round_more r (inl e) = subst (λ t. Alone (option_and_then (round folding F) t)) (sym e) (round_alone (default_ignorable c (F c)) refl)
    round_more r (inr e) = inr (ap (option_and_then (round folding F)) e ∙ ap (λ t. option_and_then (short_nfkc F) (short (drop_ignorable F t))) (folded_none folding))

    rounds_alone : (i : ℕ) → Alone (rounds folding F i (c ∷ []))
    rounds_alone zero = inl refl
    rounds_alone (suc i) = round_more (rounds folding F i (c ∷ [])) (rounds_alone i)

    folding_own : Each (IsOwn c) (folding_asks folding F (nfkc F (c ∷ [])))
    folding_own =
        let rows : Each (IsOwn c) (row_queries (c ∷ []) ++ asks F true (drop_ignorable F (c ∷ []))) = (inl refl, dropped_own (default_ignorable c (F c)) refl) in
        let after : Each (IsOwn c) (folding_asks folding F (Ok (c ∷ []))) = subst (λ t. Each (IsOwn c) (row_queries t ++ asks F true (drop_ignorable F t))) (sym (fold_alone folding)) rows in
        subst (λ r. Each (IsOwn c) (folding_asks folding F r)) (sym nfkc_alone) after

    round_own : (r : Option (List ℕ)) → Alone r → Each (IsOwn c) (round_asks_at folding F r)
    round_own r (inl e) = subst (λ t. Each (IsOwn c) (round_asks_at folding F t)) (sym e) (Each-both (IsOwn c) (asks F true (c ∷ [])) (folding_asks folding F (nfkc F (c ∷ []))) (asks_own true) folding_own)
    round_own r (inr e) = subst (λ t. Each (IsOwn c) (round_asks_at folding F t)) (sym e) (subst (λ t. Each (IsOwn c) (row_queries t ++ asks F true (drop_ignorable F t))) (sym (folded_none folding)) tt)

    all_own : (is : List ℕ) → Each (IsOwn c) (flat_map (λ i. round_asks_at folding F (rounds folding F i (c ∷ []))) is)
    all_own [] = tt
    all_own (i ∷ is) = Each-both (IsOwn c) (round_asks_at folding F (rounds folding F i (c ∷ []))) (flat_map (λ i. round_asks_at folding F (rounds folding F i (c ∷ []))) is) (round_own (rounds folding F i (c ∷ [])) (rounds_alone i)) (all_own is)

    rounds_own : (last : Option ℕ) → Each (IsOwn c) (rounds_ask folding F c last)
    rounds_own (Some last) = all_own (range_with_len 0 (suc last))
    rounds_own None = tt

  -- ---- all parts

  members : flat_map (λ m. m) (mappings c (F c)) ≡ c ∷ c ∷ c ∷ c ∷ c ∷ c ∷ c ∷ c ∷ []
  members = rw (p.mapping, p.simple_upper, p.simple_lower, p.simple_title, p.simple_fold, p.upper, p.lower, p.title, p.fold) refl

  members_own : Each (IsOwn c) (row_queries (flat_map (λ m. m) (mappings c (F c))))
  members_own = subst (λ xs. Each (IsOwn c) (row_queries xs)) (sym members) (rows_own (c ∷ c ∷ c ∷ c ∷ c ∷ c ∷ c ∷ c ∷ []) (refl, (refl, (refl, (refl, (refl, (refl, (refl, (refl, tt)))))))))

  no_composite : composite_asks F c ≡ []
  no_composite = ap (λ m. cond (primary F c) (pair_queries m) []) p.mapping ∙ either (primary F c) []

  foldings_own : Each (IsOwn c) (foldings_ask F c)
  foldings_own =
      let simple : List Query = rounds_ask Simple F c (last_round Simple F c) in
      Each-both (IsOwn c) (rounds_ask Full F c (last_round Full F c)) (simple ++ []) (rounds_own Full (last_round Full F c)) (Each-both (IsOwn c) simple [] (rounds_own Simple (last_round Simple F c)) tt)

  abbrev others : List Query
  others = composite_asks F c ++ (asks F false (c ∷ []) ++ (asks F true (c ∷ []) ++ foldings_ask F c))

  others_own : Each (IsOwn c) others
  others_own =
      let compat : Each (IsOwn c) (asks F true (c ∷ []) ++ foldings_ask F c) = Each-both (IsOwn c) (asks F true (c ∷ [])) (foldings_ask F c) (asks_own true) foldings_own in
      let canonical : Each (IsOwn c) (asks F false (c ∷ []) ++ (asks F true (c ∷ []) ++ foldings_ask F c)) = Each-both (IsOwn c) (asks F false (c ∷ [])) (asks F true (c ∷ []) ++ foldings_ask F c) (asks_own false) compat in
      subst (λ t. Each (IsOwn c) (t ++ (asks F false (c ∷ []) ++ (asks F true (c ∷ []) ++ foldings_ask F c)))) (sym no_composite) canonical

  pub plain_asks : (q : Query) → is_asked (asked F c) q ≡ is_asked (Row c ∷ Second c ∷ []) q
  unfolding asked
  plain_asks q =
      let rest : List Query = row_queries (flat_map (λ m. m) (mappings c (F c))) ++ others in
      let own : Each (IsOwn c) rest = Each-both (IsOwn c) (row_queries (flat_map (λ m. m) (mappings c (F c)))) others members_own others_own in
      absorbed (same_query q (Row c)) (same_query q (Second c)) (is_asked rest q) (own_told c q rest own)

pub plain_ask_own : PlainAskOwn
plain_ask_own F c p q = plain_asks F c p q
