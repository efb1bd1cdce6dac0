-- Proofs of the laws of turns.
-- others_stay, collected_are_dependants, collected_are_counted, next_is_valid, next_is_broken, next_keeps_asked   the laws of the
--   same names
use Rattle.std.proofs.Common.{◌≡◌, ℕ, ◌<◌, Bool, true, false, nat_lt, List, [], ◌∷◌, Err, refl, sym, ap, ◌∙◌, arith, inl, inr}
use Rattle.std.specs.List.{list_any}
use Rattle.std.proofs.lemmas.Bool.{true≢false, or_cases, or_left, or_right, and_parts, and_from}
use Rattle.std.proofs.lemmas.Bool.Decides.{nat_tests}
use Rattle.ucd_facts.specs.Facts.{Facts}
use Rattle.ucd_points.specs.Limits.{point_count}
use Rattle.ucd_model.specs.Records.{derived}
use Rattle.ucd_model.specs.Sameness.{is_in}
use Rattle.ucd_model.specs.ValidityLaws.{HasRecord, IsLeastBroken}
use Rattle.ucd_model.specs.ValidityProofs.{broken_is_least}
use Rattle.ucd_facts.specs.declared.form.Broken.{Broken}
use Rattle.ucd_facts.specs.Answers.{same_query, is_asked, SameAnswer, Each}
use Rattle.ucd_facts.specs.declared.query.Query.{Query}
use Rattle.ucd_facts.specs.AnswerProofs.{queries_are_told}
use Rattle.query_laws.specs.Questions.{asked}
use Rattle.query_laws.specs.RecordProofs.{asked_is_local}
use Rattle.query_laws.specs.Turns.{SameQueries, asks_one, IsDependant, AreDependants, IsTurn, OthersStay, CollectedAreDependants, CollectedAreCounted, NextIsValid, NextIsBroken, NextKeepsAsked}

-- ---- lists of questions

pub each_asked : (P : Query → Type 0) (Q : List Query) → ((q : Query) → is_asked Q q ≡ true → P q) → Each P Q
each_asked P [] each = tt
each_asked P (q ∷ Q) each = (each q (or_left (same_query q q) (is_asked Q q) ((queries_are_told q q).1 refl)), each_asked P Q (λ r e. each r (or_right (same_query r q) (is_asked Q r) e)))

asks_some : (p : Query → Bool) (Q : List Query) → list_any p Q ≡ true → (q : Query) × (is_asked Q q ≡ true) × (p q ≡ true)
asks_some p [] e = absurd (true≢false (sym e))
asks_some p (q ∷ Q) e =
    elim (or_cases (p q) (list_any p Q) e) [
      | inl own ↦ (q, or_left (same_query q q) (is_asked Q q) ((queries_are_told q q).1 refl), own)
      | inr later ↦ let found = asks_some p Q later in (found.0, or_right (same_query found.0 q) (is_asked Q found.0) found.1, found.2)
    ]

some_asks : (p : Query → Bool) (Q : List Query) (q : Query) → is_asked Q q ≡ true → p q ≡ true → list_any p Q ≡ true
some_asks p [] q e own = absurd (true≢false (sym e))
some_asks p (r ∷ Q) q e own =
    elim (or_cases (same_query q r) (is_asked Q q) e) [
      | inl here ↦ or_left (p r) (list_any p Q) (ap p (sym ((queries_are_told q r).0 here)) ∙ own)
      | inr later ↦ or_right (p r) (list_any p Q) (some_asks p Q q later own)
    ]

module _ (F G : ℕ → Facts) (A : ℕ → List Query) (Q : List Query) (points : List ℕ) (t : IsTurn F G A Q points) where
  inside : (c : ℕ) → is_in points c ≡ true → c < point_count
  inside c e =
      let below : nat_lt c point_count ≡ true = (and_parts (nat_lt c point_count) (asks_one A Q c) (sym (t.collected.members c) ∙ e)).0 in
      grind (arith, nat_tests)

  asking : (c : ℕ) → is_in points c ≡ true → asks_one A Q c ≡ true
  asking c e = (and_parts (nat_lt c point_count) (asks_one A Q c) (sym (t.collected.members c) ∙ e)).1

  collects : (c : ℕ) → c < point_count → asks_one A Q c ≡ true → is_in points c ≡ true
  collects c lt e =
      let below : nat_lt c point_count ≡ true = grind (arith, nat_tests) in
      t.collected.members c ∙ and_from (nat_lt c point_count) (asks_one A Q c) below e

  -- a question that a point outside asks is answered alike
  outside : (c : ℕ) → c < point_count → is_in points c ≡ false → (q : Query) → is_asked (asked F c) q ≡ true → (b : Bool) → is_asked Q q ≡ b → SameAnswer F G q
  outside c lt out q asks true e = absurd (true≢false (sym (collects c lt (some_asks (is_asked (A c)) Q q e (t.kept c lt q ∙ asks))) ∙ out))
  outside c lt out q asks false e = t.changes.unchanged q e

  stays : (c : ℕ) → c < point_count → is_in points c ≡ false → (derived G c ≡ derived F c) × (asked G c ≡ asked F c)
  stays c lt out =
      let had = t.valid c lt in
      let same = asked_is_local F G c had.0 had.1 (each_asked (SameAnswer F G) (asked F c) (λ q asks. outside c lt out q asks (is_asked Q q) refl)) in
      (same.0 ∙ sym had.1, same.1)

  depends : (c : ℕ) → is_in points c ≡ true → IsDependant F G c
  depends c e =
      let found = asks_some (is_asked (A c)) Q (asking c e) in
      (found.0, sym (t.kept c (inside c e) found.0) ∙ found.2, t.changes.changed found.0 found.1)

  dependant_if : (c : ℕ) → c < point_count → (d : IsDependant F G c) → (b : Bool) → is_asked Q d.0 ≡ b → is_in points c ≡ true
  dependant_if c lt d true e = collects c lt (some_asks (is_asked (A c)) Q d.0 e (t.kept c lt d.0 ∙ d.1))
  dependant_if c lt d false e = absurd (d.2 (t.changes.unchanged d.0 e))

  dependants : AreDependants F G points
  dependants = record { rising = t.collected.rising; inside = inside; each = depends }

  record_if : (c : ℕ) → c < point_count → (is_in points c ≡ true → HasRecord G c) → (b : Bool) → is_in points c ≡ b → HasRecord G c
  record_if c lt given true e = given e
  record_if c lt given false e =
      let had = t.valid c lt in
      (had.0, (stays c lt e).0 ∙ had.1)

  least : (b : Broken) → is_in points b.point ≡ true → derived G b.point ≡ Err b.rule → ((c : ℕ) → is_in points c ≡ true → c < b.point → HasRecord G c) → IsLeastBroken G b
  least b listed rule before =
      let below : b.point < point_count = inside b.point listed in
      record {
        point = below;
        rule = rule;
        least = λ c lt. record_if c (omega (arith, below, lt)) (λ e. before c e lt) (is_in points c) refl;
      }

  kept_if : (B : ℕ → List Query) → ((c : ℕ) → is_in points c ≡ true → SameQueries (B c) (asked G c)) → ((c : ℕ) → is_in points c ≡ false → SameQueries (B c) (A c))
      → (c : ℕ) → c < point_count → (q : Query) → (b : Bool) → is_in points c ≡ b → is_asked (B c) q ≡ is_asked (asked G c) q
  kept_if B anew old c lt q true e = anew c e q
  kept_if B anew old c lt q false e = old c e q ∙ t.kept c lt q ∙ ap (λ Q. is_asked Q q) (sym (stays c lt e).1)

pub others_stay : OthersStay
others_stay F G A Q points t c lt out = stays F G A Q points t c lt out

pub collected_are_dependants : CollectedAreDependants
collected_are_dependants F G A Q points t c lt = (depends F G A Q points t c, λ d. dependant_if F G A Q points t c lt d (is_asked Q d.0) refl)

pub collected_are_counted : CollectedAreCounted
collected_are_counted F G A Q points t = (points, dependants F G A Q points t, omega arith)

pub next_is_valid : NextIsValid
next_is_valid F G A Q points t given = λ c lt. record_if F G A Q points t c lt (given c) (is_in points c) refl

pub next_is_broken : NextIsBroken
next_is_broken F G A Q points t b listed rule before = (broken_is_least G b).1 (least F G A Q points t b listed rule before)

pub next_keeps_asked : NextKeepsAsked
next_keeps_asked F G A B Q points t anew old = λ c lt q. kept_if F G A Q points t B anew old c lt q (is_in points c) refl
