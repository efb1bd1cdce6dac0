-- What is kept of the questions of all code points, from state to state.
-- keeps_same    the same questions, kept elsewhere
-- alike         each code point is kept to ask one of the questions where each code point that they are about was walked exactly where it asks
--               one
-- keeps_next    so what is kept is right after a turn
-- cut           the facts of tables are those of a code point without a row, past the code points
-- begun         what is kept before one went on from a code point
-- walked_more   and after one went on from some, and what they ask was listed
use Rattle.std.proofs.Common.{◌≡◌, ◌∙◌, ℕ, ◌<◌, ◌≤◌, nat_lt, Bool, true, false, ◌||◌, ◌⊎◌, if◌then◌else◌, List, [], ◌∷◌, Option, Some, None, refl, sym, ap, subst, inl, inr}
use Rattle.std.specs.List.{list_any}
use Rattle.std.proofs.lemmas.Bool.{true≢false, or_cases, or_left, or_parts, or_right, false_from_ne_true, le-ltb}
use Rattle.range_table.specs.Values.{SameValues, point_count-is}
use Rattle.ucd_points.specs.Limits.{point_count}
use Rattle.ucd_facts.specs.Facts.{Facts, unassigned}
use Rattle.ucd_model.specs.Sameness.{is_in}
use Rattle.ucd_facts.specs.Uniform.{IsPlain}
use Rattle.ucd_facts.specs.declared.query.Query.TheVariants.{Row, Second}
use Rattle.ucd_facts.specs.AnswerProofs.{queries_are_told}
use Rattle.ucd_facts.specs.Answers.{is_asked, same_query}
use Rattle.ucd_facts.specs.declared.query.Query.{Query}
use Rattle.mention_index.specs.Reached.{about}
use Rattle.query_laws.specs.PlainProofs.{plain_ask_own}
use Rattle.query_laws.specs.Questions.{asked}
use Rattle.query_laws.specs.Turns.{SameQueries, asks_one}
use Rattle.fact_tables.specs.KeptFacts.{all_kept, kept_at}
use Rattle.fact_tables.specs.Rest.{RestOf}
use Rattle.dependency_map.specs.Askers.{own_queries}
use Rattle.mention_index.specs.Laws.{IsCut}
use Rattle.mention_index.specs.Mentions.{is_walked, leads}
use Rattle.mention_index.specs.StepProofs.{asked_lead, closed_leads}
use Rattle.mention_index.specs.Steps.{HasSteps, IsClosed}
use Rattle.mention_index.specs.declared.mentions.Mentions.{Mentions}
use Rattle.record_turns.specs.Turned.{AsksAlike, IsRekept}
use Rattle.edit_session.specs.Questions.{AreListed, HasWalked, Keeps, KeepsWalked}

-- ---- lists of questions

same_asked : (P R : List Query) (q : Query) → P ≡ R → is_asked P q ≡ is_asked R q
same_asked P R q same = ap (λ (qs : List Query). is_asked qs q) same

any_none : (P Q : List Query) → ((q : Query) → is_asked Q q ≡ true → is_asked P q ≡ false) → list_any (is_asked P) Q ≡ false
any_none P [] none = refl
any_none P (q ∷ Q) none =
    ap (λ b. b || list_any (is_asked P) Q) (none q (or_left (same_query q q) (is_asked Q q) ((queries_are_told q q).1 refl)))
    ∙ any_none P Q (λ r e. none r (or_right (same_query r q) (is_asked Q r) e))

any_alike : (P R Q : List Query) → SameQueries P R → list_any (is_asked P) Q ≡ list_any (is_asked R) Q
any_alike P R [] same = refl
any_alike P R (q ∷ Q) same = rw (same q, any_alike P R Q same) refl

own_about : (c : ℕ) (q : Query) → is_asked (own_queries c) q ≡ true → about q ≡ c
own_about c q e =
    elim (or_cases (same_query q (Row c)) (is_asked (Second c ∷ []) q) e) [
      | inl row ↦ ap about ((queries_are_told q (Row c)).0 row)
      | inr more ↦ elim (or_cases (same_query q (Second c)) (is_asked [] q) more) [
        | inl second ↦ ap about ((queries_are_told q (Second c)).0 second)
        | inr none ↦ absurd (true≢false (sym none))
      ]
    ]

pub below_count : (c : ℕ) → c < 1114112 → c < point_count
below_count c lt = subst (λ n. c < n) (sym point_count-is) lt

below_last : (c : ℕ) → c < point_count → c < 1114112
below_last c lt = subst (λ n. c < n) point_count-is lt

-- ---- from state to state

pub keeps_same : (m : Option Mentions) (A B : ℕ → List Query) (F : ℕ → Facts) → SameValues B A → Keeps m A F → Keeps m B F
keeps_same None A B F same plain = λ c lt. same c lt ∙ plain c lt
keeps_same (Some m) A B F same k = record {
  closed = k.closed;
  known = λ c lt e q. same_asked (B c) (A c) q (same c lt) ∙ k.known c lt e q;
  plain = λ c lt e. same c lt ∙ k.plain c lt e;
  lead = k.lead;
}

module _ (step : ℕ → ℕ → Bool) (walked : ℕ → Bool) (A : ℕ → List Query) (F : ℕ → Facts) (k : KeepsWalked step walked A F) (Q : List Query) (all : (q : Query) → is_asked Q q ≡ true → walked (about q) ≡ true) where
  none_kept : (c : ℕ) → c < 1114112 → walked c ≡ false → list_any (is_asked (A c)) Q ≡ false
  none_kept c lt out =
      any_none (A c) Q (λ q e. false_from_ne_true (is_asked (A c) q) (λ a.
      let is : about q ≡ c = own_about c q (sym (same_asked (A c) (own_queries c) q (k.plain c lt out)) ∙ a) in
      true≢false (sym (all q e) ∙ ap walked is ∙ out)))

  none_asked : (c : ℕ) → c < 1114112 → walked c ≡ false → list_any (is_asked (asked F c)) Q ≡ false
  none_asked c lt out =
      any_none (asked F c) Q (λ q e. false_from_ne_true (is_asked (asked F c) q) (λ a. true≢false (sym (closed_leads step walked c (about q) k.closed (k.lead c lt out q a) (all q e)) ∙ out)))

  alike_at : (c : ℕ) → c < 1114112 → (b : Bool) → walked c ≡ b → asks_one A Q c ≡ asks_one (asked F) Q c
  alike_at c lt true e = any_alike (A c) (asked F c) Q (k.known c lt e)
  alike_at c lt false e = none_kept c lt e ∙ sym (none_asked c lt e)

  module _ (G : ℕ → Facts) (B : ℕ → List Query) (r : IsRekept F G A B Q) where
    known_next : (c : ℕ) → c < 1114112 → walked c ≡ true → (b : Bool) → asks_one A Q c ≡ b → SameQueries (B c) (asked G c)
    known_next c lt e true one = r.anew c (below_count c lt) one
    known_next c lt e false none = λ q.
        let stays = r.others c (below_count c lt) none in
        same_asked (B c) (A c) q stays.0 ∙ k.known c lt e q ∙ sym (same_asked (asked G c) (asked F c) q stays.1)

    walked_next : KeepsWalked step walked B G
    walked_next = record {
      closed = k.closed;
      known = λ c lt e. known_next c lt e (asks_one A Q c) refl;
      plain = λ c lt e. (r.others c (below_count c lt) (none_kept c lt e)).0 ∙ k.plain c lt e;
      lead = λ c lt e q a. k.lead c lt e q (sym (same_asked (asked G c) (asked F c) q (r.others c (below_count c lt) (none_kept c lt e)).1) ∙ a);
    }

pub alike : (m : Option Mentions) (A : ℕ → List Query) (F : ℕ → Facts) (Q : List Query) → Keeps m A F → HasWalked m Q → AsksAlike A F Q
alike None A F Q k all c lt =
    any_none (A c) Q (λ q e. absurd (true≢false (sym (all q e)))) ∙ sym (any_none (asked F c) Q (λ q e. absurd (true≢false (sym (all q e)))))
alike (Some m) A F Q k all c lt = alike_at (leads m) (is_walked m) A F k Q all c (below_last c lt) (is_walked m c) refl

pub keeps_next : (m : Option Mentions) (A B : ℕ → List Query) (F G : ℕ → Facts) (Q : List Query) → Keeps m A F → HasWalked m Q → IsRekept F G A B Q → Keeps m B G
keeps_next None A B F G Q k all r = λ c lt. (r.others c (below_count c lt) (any_none (A c) Q (λ q e. absurd (true≢false (sym (all q e)))))).0 ∙ k c lt
keeps_next (Some m) A B F G Q k all r = walked_next (leads m) (is_walked m) A F k Q all G B r

-- ---- the first mentions

unassigned_plain : (c : ℕ) → IsPlain c (unassigned c)
unassigned_plain c = record { mapping = refl; simple_upper = refl; simple_lower = refl; simple_title = refl; simple_fold = refl; upper = refl; lower = refl; title = refl; fold = refl }

past_all : (words : ℕ → ℕ) (rests : ℕ → RestOf) (c : ℕ) → nat_lt c point_count ≡ false → all_kept words rests c ≡ unassigned c
unfolding all_kept
past_all words rests c past = ap (λ b. if b then kept_at c (words c) (rests c) else unassigned c) past

pub cut : (words : ℕ → ℕ) (rests : ℕ → RestOf) → IsCut (all_kept words rests)
cut words rests c past = subst (IsPlain c) (sym (past_all words rests c (le-ltb c point_count (subst (λ n. n ≤ c) (sym point_count-is) past)))) (unassigned_plain c)

pub begun : (m : Mentions) (A : ℕ → List Query) (F : ℕ → Facts) → SameValues A own_queries → HasSteps (leads m) F → IsCut F → ((x : ℕ) → is_walked m x ≡ false) → KeepsWalked (leads m) (is_walked m) A F
begun m A F plain steps cut none = record {
  closed = λ x d lt e s. absurd (true≢false (sym e ∙ none x));
  known = λ c lt e. absurd (true≢false (sym e ∙ none c));
  plain = λ c lt e. plain c lt;
  lead = λ c lt e q a. asked_lead (leads m) F cut steps c q a;
}

-- ---- more that is walked

module _ (step : ℕ → ℕ → Bool) (W more : ℕ → Bool) (A N B C : ℕ → List Query) (F : ℕ → Facts) (points : List ℕ) (k : KeepsWalked step W A F) (still : SameValues N A)
    (listed : AreListed F points N B) (committed : SameValues C B) (walks : (c : ℕ) → more c ≡ (W c || is_in points c)) (closed : IsClosed step more) where
  -- of a point that asks its own questions, or was known
  put : (c : ℕ) → c < 1114112 → (b : Bool) → W c ≡ b → SameQueries (B c) (asked F c) ⊎ (IsPlain c (F c) × (B c ≡ N c)) → SameQueries (C c) (asked F c)
  put c lt b e (inl known) = λ q. same_asked (C c) (B c) q (committed c lt) ∙ known q
  put c lt true e (inr plain) = λ q. same_asked (C c) (A c) q (committed c lt ∙ plain.1 ∙ still c lt) ∙ k.known c lt e q
  put c lt false e (inr plain) = λ q. same_asked (C c) (own_queries c) q (committed c lt ∙ plain.1 ∙ still c lt ∙ k.plain c lt e) ∙ sym (plain_ask_own F c plain.0 q)

  stays : (c : ℕ) → c < 1114112 → is_in points c ≡ false → C c ≡ A c
  stays c lt none = committed c lt ∙ listed.others c lt none ∙ still c lt

  known : (c : ℕ) → c < 1114112 → more c ≡ true → (b : Bool) → is_in points c ≡ b → SameQueries (C c) (asked F c)
  known c lt e true inside = put c lt (W c) refl (listed.each c lt inside)
  known c lt e false none =
      elim (or_cases (W c) (is_in points c) (sym (walks c) ∙ e)) [
        | inl old ↦ λ q. same_asked (C c) (A c) q (stays c lt none) ∙ k.known c lt old q
        | inr new ↦ absurd (true≢false (sym new ∙ none))
      ]

  pub walked_more : KeepsWalked step more C F
  walked_more = record {
    closed = closed;
    known = λ c lt e. known c lt e (is_in points c) refl;
    plain = λ c lt e. let out = or_parts (W c) (is_in points c) (sym (walks c) ∙ e) in stays c lt out.1 ∙ k.plain c lt out.0;
    lead = λ c lt e. k.lead c lt (or_parts (W c) (is_in points c) (sym (walks c) ∙ e)).0;
  }
