-- The rounds of a code point that reaches a last one, step by step.
-- rounds_are     what is put round by round are the questions that all rounds up to the last one ask
use Rattle.std.proofs.Common.{◌≡◌, ℕ, zero, suc, ◌+◌, ◌-◌, ◌<◌, ◌≤◌, true, false, cond, ◌||◌, List, [], ◌∷◌, ◌++◌, add-one, Option, Some, None, is_some, refl, sym, ap, ◌∙◌, subst, arith, option_and_then, true≢false}
use Rattle.std.specs.List.{flat_map, range_with_len}
use Rattle.std.proofs.lemmas.List.Folds.{list_any-append}
use Rattle.ucd_facts.specs.CompositeProofs.{Least, find_least}
use Rattle.ucd_facts.specs.Facts.{Facts}
use Rattle.ucd_model.specs.FoldRounds.{round, rounds, is_list, is_fixed, is_last}
use Rattle.ucd_facts.specs.declared.folding.Folding.{Folding}
use Rattle.ucd_facts.specs.Answers.{same_query, is_asked}
use Rattle.ucd_facts.specs.declared.query.Query.{Query}
use Rattle.query_laws.specs.Turns.{SameQueries}
use Rattle.query_laws.specs.Questions.{round_asks, round_asks_at, last_round, rounds_ask}
use Rattle.point_queries.specs.Rounds.{next_at, asks_at, asks_from, asks_step, round_puts, round_same}

fixed_stops : (s : List ℕ) (r : Option (List ℕ)) → is_list s r ≡ true → next_at s r ≡ None
fixed_stops s (Some t) e = ap (λ b. cond b None (Some t)) e
fixed_stops s None e = refl

changed_goes : (s t : List ℕ) → is_list s (Some t) ≡ false → next_at s (Some t) ≡ Some t
changed_goes s t e = ap (λ b. cond b None (Some t)) e

joined_same : (P Q R S : List Query) → SameQueries P Q → SameQueries R S → SameQueries (P ++ R) (Q ++ S)
joined_same P Q R S first rest q = list_any-append (same_query q) P R ∙ ap (λ b. b || is_asked R q) (first q) ∙ ap (λ b. is_asked Q q || b) (rest q) ∙ sym (list_any-append (same_query q) Q S)

module _ (folding : Folding) (F : ℕ → Facts) (c n : ℕ) (last : last_round folding F c ≡ Some n) where
  least : Least (is_last folding F c) 0 8 (Some n)
  unfolding last_round
  least = subst (Least (is_last folding F c) 0 8) last (find_least (is_last folding F c) 0 8 8 (omega arith))

  none_stays : (i k : ℕ) → rounds folding F i (c ∷ []) ≡ None → rounds folding F (k + i) (c ∷ []) ≡ None
  none_stays i zero e =
      let same : 0 + i ≡ i = omega arith in
      ap (λ j. rounds folding F j (c ∷ [])) same ∙ e
  none_stays i (suc k) e =
      let next : suc k + i ≡ suc (k + i) = omega arith in
      ap (λ j. rounds folding F j (c ∷ [])) next ∙ ap (option_and_then (round folding F)) (none_stays i k e)

  there_if : (i : ℕ) → i ≤ n → (r : Option (List ℕ)) → rounds folding F i (c ∷ []) ≡ r → (s : List ℕ) × (rounds folding F i (c ∷ []) ≡ Some s)
  there_if i le (Some s) e = (s, e)
  there_if i le None e =
      let same : (n - i) + i ≡ n = omega arith in
      let none : rounds folding F n (c ∷ []) ≡ None = ap (λ j. rounds folding F j (c ∷ [])) (sym same) ∙ none_stays i (n - i) e in
      absurd (true≢false (sym least.2 ∙ ap (is_fixed folding F) none))

  there : (i : ℕ) → i ≤ n → (s : List ℕ) × (rounds folding F i (c ∷ []) ≡ Some s)
  there i le = there_if i le (rounds folding F i (c ∷ [])) refl

  abbrev at : ℕ → List Query
  at j = round_asks_at folding F (rounds folding F j (c ∷ []))

  from_round : (d i fuel : ℕ) → i + d ≡ n → d < fuel → (s : List ℕ) → rounds folding F i (c ∷ []) ≡ Some s → SameQueries (asks_from folding F fuel s) (flat_map at (range_with_len i (suc d)))
  from_round d i zero sum few s e = absurd (omega (arith, few))
  from_round zero i (suc m) sum few s e =
      let same : n ≡ i = omega (arith, sum) in
      let fixed : is_list s (round folding F s) ≡ true = ap (is_fixed folding F) (sym e) ∙ ap (is_last folding F c) (sym same) ∙ least.2 in
      let steps : asks_from folding F (suc m) s ≡ round_puts folding F s ++ [] = asks_step folding F m s ∙ ap (λ r. round_puts folding F s ++ asks_at (asks_from folding F m) r) (fixed_stops s (round folding F s) fixed) in
      λ q. ap (λ Q. is_asked Q q) steps ∙ joined_same (round_puts folding F s) (round_asks folding F s) [] [] (round_same folding F s) (λ r. refl) q ∙ ap (λ r. is_asked (round_asks_at folding F r ++ []) q) (sym e)
  from_round (suc d) i (suc m) sum few s e =
      let next = there (suc i) (omega (arith, sum)) in
      let moved : round folding F s ≡ Some next.0 = sym (ap (option_and_then (round folding F)) e) ∙ next.1 in
      let other : is_list s (Some next.0) ≡ false = ap (is_list s) (sym moved) ∙ ap (is_fixed folding F) (sym e) ∙ least.3 i (omega arith) (omega (arith, sum)) in
      let later : rounds folding F (i + 1) (c ∷ []) ≡ Some next.0 = ap (λ j. rounds folding F j (c ∷ [])) (add-one i) ∙ next.1 in
      let steps : asks_from folding F (suc m) s ≡ round_puts folding F s ++ asks_from folding F m next.0 =
      asks_step folding F m s
      ∙ ap (λ r. round_puts folding F s ++ asks_at (asks_from folding F m) (next_at s r)) moved
      ∙ ap (λ r. round_puts folding F s ++ asks_at (asks_from folding F m) r) (changed_goes s next.0 other) in
      let rest : SameQueries (asks_from folding F m next.0) (flat_map at (range_with_len (i + 1) (suc d))) = from_round d (i + 1) m (omega (arith, sum)) (omega (arith, few)) next.0 later in
      λ q. ap (λ Q. is_asked Q q) steps
      ∙ joined_same (round_puts folding F s) (round_asks folding F s) (asks_from folding F m next.0) (flat_map at (range_with_len (i + 1) (suc d))) (round_same folding F s) rest q
      ∙ ap (λ r. is_asked (round_asks_at folding F r ++ flat_map at (range_with_len (i + 1) (suc d))) q) (sym e)

  from_first : SameQueries (asks_from folding F 8 (c ∷ [])) (rounds_ask folding F c (Some n))
  from_first = from_round n 0 8 (omega arith) least.1 (c ∷ []) refl

known : (r : Option ℕ) → is_some r ≡ true → (n : ℕ) × (r ≡ Some n)
known (Some n) e = (n, refl)
known None e = absurd (true≢false (sym e))

pub rounds_are : (folding : Folding) (F : ℕ → Facts) (c : ℕ) → is_some (last_round folding F c) ≡ true → SameQueries (asks_from folding F 8 (c ∷ [])) (rounds_ask folding F c (last_round folding F c))
rounds_are folding F c e =
    let last = known (last_round folding F c) e in
    λ q. from_first folding F c last.0 last.1 q ∙ ap (λ r. is_asked (rounds_ask folding F c r) q) (sym last.1)
