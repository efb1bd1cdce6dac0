-- The derivation of a code point with its questions.
-- DerivesAs r value        r is the record, or in its place the rule; no claim if memory ran out
-- plain_shown c G          the point c with the facts G has no mapping
-- composite_shown F G      the pair of the mapping of a point with the facts G, where it is a primary composite
-- foldings_put F c         what is put for the rounds of c by both foldings
-- other_asks F c           what is put for c beside Row(c) and Second(c). What its NFKC asks is not repeated: it is among what the
--                          folding rounds ask
-- plain_asked              a point that is shown to have no mapping asks Row(c) and Second(c) alone
-- asked_is                 of a point that has its record, Row(c), Second(c) and what is put beside these are what is asked
use Rattle.std.proofs.Common.{◌≡◌, ℕ, Bool, true, false, cond, ◌&&◌, not, ◌==◌, List, [], ◌∷◌, ◌++◌, append_assoc, append-nil, length, Option, Some, None, is_some, Result, if◌then◌else◌, refl, sym, ap, ◌∙◌, ◌+◌, ◌||◌}
use Rattle.std.specs.Prelude.{⊤}
use Rattle.std.specs.List.{flat_map, range_with_len}
use Rattle.ucd_facts.specs.Composites.{is_canonical, first_has_class_zero}
use Rattle.ucd_facts.specs.Expansion.{rule_of}
use Rattle.ucd_facts.specs.Facts.{Facts}
use Rattle.ucd_facts.specs.declared.image.Image.{Image}
use Rattle.ucd_facts.specs.declared.image.Image.TheVariants.{Same, To}
use Rattle.ucd_model.specs.FoldRounds.{rounds}
use Rattle.ucd_model.specs.Records.{Record, kept_record}
use Rattle.ucd_facts.specs.Uniform.{IsPlain}
use Rattle.ucd_model.specs.Validity.{mappings}
use Rattle.ucd_model.specs.ValidityLaws.{HasRecord}
use Rattle.ucd_model.specs.ValidityProofs.{broken-none, broken-rules}
use Rattle.ucd_facts.specs.declared.folding.Folding.{Folding}
use Rattle.ucd_facts.specs.declared.folding.Folding.TheVariants.{Full, Simple}
use Rattle.ucd_facts.specs.declared.form.Bad.{Bad as Rule}
use Rattle.ucd_facts.specs.declared.form.FormStop.{FormStop}
use Rattle.ucd_facts.specs.declared.query.Query.TheVariants.{Row, Second}
use Rattle.std.proofs.lemmas.Bool.{true≢false, and_parts, eqb-true}
use Rattle.std.proofs.lemmas.List.{nil_from_length}
use Rattle.std.proofs.lemmas.List.Folds.{list_any-append}
use Rattle.ucd_points.specs.Answers.{AnswersBy}
use Rattle.ucd_model.specs.Forms.{nfkc}
use Rattle.ucd_facts.specs.Answers.{same_query, is_asked}
use Rattle.ucd_facts.specs.declared.query.Query.{Query}
use Rattle.ucd_facts.specs.Shown.{shown_facts}
use Rattle.ucd_facts.specs.declared.view.FactsRef.{FactsRef}
use Rattle.query_laws.specs.PlainProofs.{plain_ask_own}
use Rattle.query_laws.specs.RecordProofs.{has_last}
use Rattle.query_laws.specs.Turns.{SameQueries}
use Rattle.query_laws.specs.Questions.{row_queries, asks, last_round, rounds_ask, foldings_ask, round_asks_at, folding_asks, facts_ask, pair_queries, composite_asks, asked}
use Rattle.point_queries.specs.Compat.{canonical_asks, has_compat, forms_alike}
use Rattle.point_queries.specs.KnownForms.{puts_from, puts_are}
use Rattle.point_queries.specs.declared.derivation.Derived.{Derived}

abbrev pub DerivesAs : Result Derived FormStop → Result Record Rule → Type 0
DerivesAs result value = AnswersBy (λ (found : Derived). kept_record found.value) rule_of result value

abbrev pub is_same_image : Image → Bool
is_same_image Same = true
is_same_image (To points) = false

abbrev pub plain_shown : ℕ → Facts → Bool
plain_shown c G =
    (length G.mapping == 0)
    && ((G.simple_upper == c)
    && ((G.simple_lower == c)
    && ((G.simple_title == c)
    && ((G.simple_fold == c)
    && (is_same_image G.upper
    && (is_same_image G.lower
    && (is_same_image G.title
    && is_same_image G.fold)))))))

abbrev pub composite_shown : (ℕ → Facts) → Facts → List Query
composite_shown F G = if is_canonical G.kind && ((G.class == 0) && (first_has_class_zero F G.mapping && not G.excluded)) then pair_queries G.mapping else []

abbrev pub foldings_put : (ℕ → Facts) → ℕ → List Query
foldings_put F c = puts_from Full F 8 false (c ∷ []) ++ puts_from Simple F 8 false (c ∷ [])

abbrev pub other_asks : (ℕ → Facts) → ℕ → List Query
other_asks F c =
    row_queries (flat_map (λ m. m) (mappings c (F c)))
    ++ (composite_asks F c ++ (canonical_asks F c ++ foldings_put F c))

last_is_some : (folding : Folding) (F : ℕ → Facts) (c : ℕ) → HasRecord F c → is_some (last_round folding F c) ≡ true
last_is_some folding F c has = ap is_some (has_last F c (broken-rules F c (broken-none F c has)).folds folding).1

-- ---- all questions

repeated : (a b c : Bool) → ((a || b) || c) ≡ (a || ((a || b) || c))
repeated true b c = refl
repeated false b c = refl

first_round : (F : ℕ → Facts) (c : ℕ) (q : Query) (last : Option ℕ) → is_some last ≡ true → is_asked (rounds_ask Full F c last) q ≡ is_asked (asks F true (c ∷ []) ++ rounds_ask Full F c last) q
first_round F c q None e = absurd (true≢false (sym e))
first_round F c q (Some n) e =
    let form : List Query = asks F true (c ∷ []) in
    let folding : List Query = folding_asks Full F (nfkc F (c ∷ [])) in
    let later : List Query = flat_map (λ i. round_asks_at Full F (rounds Full F i (c ∷ []))) (range_with_len (0 + 1) n) in
    let split : is_asked (rounds_ask Full F c (Some n)) q ≡ ((is_asked form q || is_asked folding q) || is_asked later q) =
    list_any-append (same_query q) (form ++ folding) later ∙ ap (λ b. b || is_asked later q) (list_any-append (same_query q) form folding) in
    split ∙ repeated (is_asked form q) (is_asked folding q) (is_asked later q) ∙ ap (λ b. is_asked form q || b) (sym split) ∙ sym (list_any-append (same_query q) form (rounds_ask Full F c (Some n)))

-- so of the rounds of both foldings
first_rounds : (F : ℕ → Facts) (c : ℕ) (q : Query) → is_some (last_round Full F c) ≡ true → is_asked (foldings_ask F c) q ≡ is_asked (asks F true (c ∷ []) ++ foldings_ask F c) q
first_rounds F c q e =
    let form : List Query = asks F true (c ∷ []) in
    let full : List Query = rounds_ask Full F c (last_round Full F c) in
    let simple : List Query = rounds_ask Simple F c (last_round Simple F c) ++ [] in
    list_any-append (same_query q) full simple
    ∙ ap (λ b. b || is_asked simple q) (first_round F c q (last_round Full F c) e)
    ∙ sym (list_any-append (same_query q) (form ++ full) simple)
    ∙ ap (λ (Q : List Query). is_asked Q q) (append_assoc form full simple)

behind : (xs ys zs : List Query) (q : Query) → is_asked ys q ≡ is_asked zs q → is_asked (xs ++ ys) q ≡ is_asked (xs ++ zs) q
behind xs ys zs q e = list_any-append (same_query q) xs ys ∙ ap (λ b. is_asked xs q || b) e ∙ sym (list_any-append (same_query q) xs zs)

-- Form C of c asks nothing that Form KC does not ask, where no compatibility mapping is below c
canonical_repeated : (F : ℕ → Facts) (c : ℕ) (q : Query) (b : Bool) (rounds : List Query) → has_compat F 8 c ≡ b → is_asked rounds q ≡ is_asked (asks F true (c ∷ []) ++ rounds) q
    → is_asked (cond b (asks F false (c ∷ [])) [] ++ rounds) q ≡ is_asked (asks F false (c ∷ []) ++ (asks F true (c ∷ []) ++ rounds)) q
canonical_repeated F c q true rounds e last = behind (asks F false (c ∷ [])) rounds (asks F true (c ∷ []) ++ rounds) q last
canonical_repeated F c q false rounds e last =
    last ∙ behind (asks F true (c ∷ [])) rounds (asks F true (c ∷ []) ++ rounds) q last
    ∙ ap (λ (Q : List Query). is_asked (Q ++ (asks F true (c ∷ []) ++ rounds)) q) (forms_alike F c e)

-- what is put for the rounds of both foldings is what they ask
foldings_are : (F : ℕ → Facts) (c : ℕ) → HasRecord F c → SameQueries (foldings_put F c) (foldings_ask F c)
foldings_are F c has = λ q.
    let full : List Query = rounds_ask Full F c (last_round Full F c) in
    let simple : List Query = rounds_ask Simple F c (last_round Simple F c) in
    list_any-append (same_query q) (puts_from Full F 8 false (c ∷ [])) (puts_from Simple F 8 false (c ∷ []))
    ∙ ap (λ b. b || is_asked (puts_from Simple F 8 false (c ∷ [])) q) (puts_are Full F c (last_is_some Full F c has) q)
    ∙ ap (λ b. is_asked full q || b) (puts_are Simple F c (last_is_some Simple F c has) q)
    ∙ sym (list_any-append (same_query q) full simple)
    ∙ ap (λ (Q : List Query). is_asked (full ++ Q) q) (sym (append-nil simple))

pub asked_is : (F : ℕ → Facts) (c : ℕ) → HasRecord F c → SameQueries (Row c ∷ Second c ∷ other_asks F c) (asked F c)
unfolding asked
asked_is F c has = λ q.
    let put = foldings_put F c in
    let rounds = foldings_ask F c in
    let all = asks F true (c ∷ []) ++ rounds in
    let last = first_rounds F c q (last_is_some Full F c has) in
    let canonical = behind (canonical_asks F c) put rounds q (foldings_are F c has q) ∙ canonical_repeated F c q (has_compat F 8 c) rounds refl last in
    let composite = behind (composite_asks F c) (canonical_asks F c ++ put) (asks F false (c ∷ []) ++ all) q canonical in
    behind (facts_ask F c) (composite_asks F c ++ (canonical_asks F c ++ put)) (composite_asks F c ++ (asks F false (c ∷ []) ++ all)) q composite

-- ---- a point without a mapping

same_is : (i : Image) → is_same_image i ≡ true → i ≡ Same
same_is Same e = refl
same_is (To points) e = absurd (true≢false (sym e))

nothing_in : (xs : List ℕ) → (length xs == 0) ≡ true → xs ≡ []
nothing_in xs e = nil_from_length xs (eqb-true (length xs) 0 e)

plain_is : (c : ℕ) (G : Facts) → plain_shown c G ≡ true → IsPlain c G
plain_is c G e =
    let full = is_same_image G.upper && (is_same_image G.lower && (is_same_image G.title && is_same_image G.fold)) in
    let p1 = and_parts (length G.mapping == 0) ((G.simple_upper == c) && ((G.simple_lower == c) && ((G.simple_title == c) && ((G.simple_fold == c) && full)))) e in
    let p2 = and_parts (G.simple_upper == c) ((G.simple_lower == c) && ((G.simple_title == c) && ((G.simple_fold == c) && full))) p1.1 in
    let p3 = and_parts (G.simple_lower == c) ((G.simple_title == c) && ((G.simple_fold == c) && full)) p2.1 in
    let p4 = and_parts (G.simple_title == c) ((G.simple_fold == c) && full) p3.1 in
    let p5 = and_parts (G.simple_fold == c) full p4.1 in
    let p6 = and_parts (is_same_image G.upper) (is_same_image G.lower && (is_same_image G.title && is_same_image G.fold)) p5.1 in
    let p7 = and_parts (is_same_image G.lower) (is_same_image G.title && is_same_image G.fold) p6.1 in
    let p8 = and_parts (is_same_image G.title) (is_same_image G.fold) p7.1 in
    record {
      mapping = nothing_in G.mapping p1.0;
      simple_upper = eqb-true G.simple_upper c p2.0;
      simple_lower = eqb-true G.simple_lower c p3.0;
      simple_title = eqb-true G.simple_title c p4.0;
      simple_fold = eqb-true G.simple_fold c p5.0;
      upper = same_is G.upper p6.0;
      lower = same_is G.lower p7.0;
      title = same_is G.title p8.0;
      fold = same_is G.fold p8.1;
    }

pub plain_asked : (F : ℕ → Facts) (c : ℕ) (shown : FactsRef) → shown_facts shown ≡ F c → plain_shown c (shown_facts shown) ≡ true → SameQueries (Row c ∷ Second c ∷ []) (asked F c)
plain_asked F c shown shows e = λ q. sym (plain_ask_own F c (plain_is c (F c) (ap (plain_shown c) (sym shows) ∙ e)) q)
