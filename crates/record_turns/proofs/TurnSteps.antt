-- A turn, over the points that are derived again.
use Rattle.std.proofs.Common.{◌≡◌, ℕ, zero, suc, ◌+◌, ◌-◌, ◌<◌, ◌≤◌, ◌==◌, nat_lt, Bool, true, false, true≢false, not, cond, ◌&&◌, ◌||◌, List, [], ◌∷◌, ◌++◌, length, get_or, filter, inl, inr, refl, sym, ap, subst, ◌∙◌, arith, get_or-append-add, length-append}
use Rattle.std.specs.List.{range_with_len}
use Rattle.std.specs.List.Sorted.{IsStrictlyIncreasing}
use Rattle.std.proofs.lemmas.Bool.{cases_Bool, or_cases, and_parts, and_from, lt-ltb, ltb-true}
use Rattle.std.proofs.lemmas.Bool.Decides.{nat_tests}
use Rattle.std.proofs.lemmas.List.Folds.{Any-from_list_any, list_any-append}
use Rattle.std.proofs.lemmas.List.Kept.{AllPairs-from_increasing}
use Rattle.std.proofs.Math.Bool.{and-false, or-true}
use Rattle.std.specs.Cmp.{both_ways}
use Rattle.range_table.specs.Values.{point_count-is}
use Rattle.ucd_facts.specs.Facts.{Facts}
use Rattle.ucd_points.specs.Limits.{point_count}
use Rattle.ucd_model.specs.Records.{Record, record_at}
use Rattle.ucd_model.specs.Sameness.{is_in, same_record}
use Rattle.ucd_model.specs.SamenessProofs.{records_are_told}
use Rattle.ucd_model.specs.Validity.{broken}
use Rattle.ucd_facts.specs.declared.query.Query.{Query}
use Rattle.query_laws.specs.Questions.{asked}
use Rattle.query_laws.specs.Turns.{IsTurn, asks_one}
use Rattle.query_laws.specs.TurnProofs.{collected_are_counted, next_is_broken, next_is_valid, others_stay}
use Rattle.dependency_map.specs.Askers.{askers_of_any, asks_any}
use Rattle.dependency_map.specs.Laws.{AreThose}
use Rattle.dependency_map.specs.LawProofs.{askers_are_those}
use Rattle.record_turns.specs.Again.{AsksAnew, IsAgain, StopsAt, differs}
use Rattle.record_turns.specs.Turned.{CountsWithin, IsReady, IsRekept, IsTurned, StopsTurn, changed_points}
use Rattle.record_turns.specs.declared.again_stop.AgainStop.{AgainStop}
use Rattle.record_turns.specs.declared.again_stop.AgainStop.TheVariants.{Broken, Memory}
use Rattle.record_turns.proofs.AgainSteps.{ok_is}

-- ---- lists

head : (p d e : ℕ → Bool) (a : ℕ) (xs : List ℕ) (b : Bool) → p a ≡ b → (b ≡ true → d a ≡ e a) → (b ≡ false → e a ≡ false) → filter d (filter p xs) ≡ filter e xs → filter d (filter p (a ∷ xs)) ≡ filter e (a ∷ xs)
head p d e a xs true is same none rest =
    ap (λ t. filter d (cond t (a ∷ filter p xs) (filter p xs))) is ∙ ap (λ (ys : List ℕ). cond (d a) (a ∷ ys) ys) rest
    ∙ ap (λ t. cond t (a ∷ filter e xs) (filter e xs)) (same refl)
head p d e a xs false is same none rest =
    ap (λ t. filter d (cond t (a ∷ filter p xs) (filter p xs))) is ∙ rest ∙ ap (λ t. cond t (a ∷ filter e xs) (filter e xs)) (sym (none refl))

filter_both : (p d e : ℕ → Bool) (a n : ℕ) → ((c : ℕ) → a ≤ c → c < a + n → d c ≡ e c) → ((c : ℕ) → a ≤ c → c < a + n → p c ≡ false → e c ≡ false)
    → filter d (filter p (range_with_len a n)) ≡ filter e (range_with_len a n)
filter_both p d e a zero same none = refl
filter_both p d e a (suc n) same none =
    head p d e a (range_with_len (a + 1) n) (p a) refl (λ h. same a (omega arith) (omega arith)) (none a (omega arith) (omega arith))
    (filter_both p d e (a + 1) n (λ c le lt. same c (omega (arith, le)) (omega (arith, lt))) (λ c le lt. none c (omega (arith, le)) (omega (arith, lt))))

in_here : (p : ℕ) (points : List ℕ) (c : ℕ) → c ≡ p → is_in (p ∷ points) c ≡ true
in_here p points c same = grind (arith, nat_tests)

-- ---- the points up to one

not_below : (front behind : List ℕ) (point c : ℕ) → IsStrictlyIncreasing (front ++ point ∷ behind) → is_in (point ∷ behind) c ≡ true → point ≤ c
not_below front behind point c rising h =
    let (k, x, lt, at, same) = Any-from_list_any (λ (y : ℕ). y == c) (point ∷ behind) h in
    let is : x ≡ c = grind (arith, nat_tests) in
    place k x lt at is
  where
    place : (k x : ℕ) → k < length (point ∷ behind) → get_or (point ∷ behind) k x ≡ x → x ≡ c → point ≤ c
    place zero x lt at is = let here : point ≡ x = at in omega (arith, here, is)
    place (suc k) x lt at is =
        let all = length-append front (point ∷ behind) in
        let first : get_or (front ++ point ∷ behind) (length front + 0) x ≡ point = get_or-append-add front (point ∷ behind) 0 x in
        let there : get_or (front ++ point ∷ behind) (length front + suc k) x ≡ x = get_or-append-add front (point ∷ behind) (suc k) x ∙ at in
        let less : get_or (front ++ point ∷ behind) (length front + 0) x < get_or (front ++ point ∷ behind) (length front + suc k) x =
        AllPairs-from_increasing (front ++ point ∷ behind) rising (length front + 0) (length front + suc k) x (omega arith) (omega (arith, all, lt)) in
        omega (arith, less, first, there, is)

-- ---- what is ready

module _ (F G : ℕ → Facts) (R : ℕ → Record) (A N : ℕ → List Query) (Q : List Query) (points : List ℕ) (ready : IsReady F G R A N Q) (askers : points ≡ askers_of_any A Q) where
  those : AreThose (asks_any A Q) points
  those = subst (AreThose (asks_any A Q)) (sym askers) (askers_are_those.1 A Q)

  members : (c : ℕ) → is_in points c ≡ (nat_lt c point_count && asks_one A Q c)
  members c =
      both_ways (is_in points c) (nat_lt c point_count && asks_one A Q c)
      (λ h. let one = those.only c h in and_from (nat_lt c point_count) (asks_one A Q c) (lt-ltb c point_count (subst (λ n. c < n) (sym point_count-is) one.0)) one.1)
      (λ h. let two = and_parts (nat_lt c point_count) (asks_one A Q c) h in those.all c (subst (λ n. c < n) point_count-is (ltb-true c point_count two.0)) two.1)

  asks_count : (c : ℕ) (b : Bool) → nat_lt c point_count ≡ b → (b && asks_one A Q c) ≡ (b && asks_one (asked F) Q c)
  asks_count c true e = ready.alike c (ltb-true c point_count e)
  asks_count c false e = refl

  -- it is a turn in which all that is asked is kept
  turn_of : IsTurn F G (asked F) Q points
  turn_of = record {
    valid = ready.valid;
    kept = λ c lt q. refl;
    changes = ready.changes;
    collected = record { rising = those.rising; members = λ c. members c ∙ asks_count c (nat_lt c point_count) refl };
  }

  same_others : (c : ℕ) → c < point_count → is_in points c ≡ false → record_at G c ≡ record_at F c
  same_others c lt h =
      let (X, has) = ready.valid c lt in
      let stay = others_stay F G (asked F) Q points turn_of c lt h in
      sym (ok_is (record_at G c) X (broken G c) (stay.0 ∙ has)) ∙ ok_is (record_at F c) X (broken F c) has

  pub counts : (old new : ℕ) → new ≤ old + length points → CountsWithin F G old new
  counts old new le = (length points, collected_are_counted F G (asked F) Q points turn_of, le)

  -- the stop
  pub stops_turn : (stop : AgainStop) → StopsAt G points stop → StopsTurn G stop
  stops_turn (Broken rule point) (front, behind, split, has, breaks) =
      next_is_broken F G (asked F) Q points turn_of (record { point = point; rule = rule }) (subst (λ (xs : List ℕ). is_in xs point ≡ true) (sym split) here) breaks
      (λ c h lt. has c (in_part c lt (subst (λ (xs : List ℕ). is_in xs c ≡ true) split h)))
    where
      halves : (c : ℕ) → is_in (front ++ point ∷ behind) c ≡ (is_in front c || is_in (point ∷ behind) c)
      halves c = list_any-append (λ x. x == c) front (point ∷ behind)

      here : is_in (front ++ point ∷ behind) point ≡ true
      here = halves point ∙ ap (λ b. is_in front point || b) (in_here point behind point refl) ∙ or-true (is_in front point)

      in_part : (c : ℕ) → c < point → is_in (front ++ point ∷ behind) c ≡ true → is_in front c ≡ true
      in_part c lt h =
          elim (or_cases (is_in front c) (is_in (point ∷ behind) c) (sym (halves c) ∙ h)) [
            | inl first ↦ first
            | inr last ↦
                let past : point ≤ c = not_below front behind point c (subst IsStrictlyIncreasing split those.rising) last in
                absurd (omega (arith, past, lt))
          ]
  stops_turn Memory found = tt

  -- the points that changed
  changed_is : (changed : List ℕ) (S : ℕ → Record) → IsAgain R G points changed S → changed ≡ changed_points F G
  changed_is changed S again =
      let all : 0 + (point_count - 0) ≡ point_count = omega arith in
      let whole : point_count - 0 ≡ point_count = omega arith in
      again.changed ∙ ap (filter (differs R G)) askers
      ∙ filter_both (asks_any A Q) (differs R G) (λ c. not (same_record (record_at F c) (record_at G c))) 0 (point_count - 0)
      (λ c le lt. ap (λ (r : Record). not (same_record r (record_at G c))) (ready.records c (subst (λ n. c < n) all lt)))
      (λ c le lt none.
      let inside : c < point_count = subst (λ n. c < n) all lt in
      let same : record_at G c ≡ record_at F c = same_others c inside (members c ∙ ap (λ b. nat_lt c point_count && b) none ∙ and-false (nat_lt c point_count)) in
      ap not ((records_are_told (record_at F c) (record_at G c)).1 (sym same)))
      ∙ ap (λ n. filter (λ c. not (same_record (record_at F c) (record_at G c))) (range_with_len 0 n)) whole

  -- the records
  records_next : (changed : List ℕ) (S : ℕ → Record) → IsAgain R G points changed S → (c : ℕ) → c < point_count → S c ≡ record_at G c
  records_next changed S again c lt =
      let inside : c < 1114112 = subst (λ n. c < n) point_count-is lt in
      elim (cases_Bool (is_in points c)) [
        | inl derived ↦ again.anew c inside derived
        | inr other ↦ again.others c inside other ∙ ready.records c lt ∙ sym (same_others c lt other)
      ]

  -- the questions
  rekept : (B : ℕ → List Query) → AsksAnew G points N B → IsRekept F G A B Q
  rekept B asks = record {
    anew = λ c lt one. asks.anew c (subst (λ n. c < n) point_count-is lt) (members c ∙ and_from (nat_lt c point_count) (asks_one A Q c) (lt-ltb c point_count lt) one);
    others = λ c lt none.
        let inside : c < 1114112 = subst (λ n. c < n) point_count-is lt in
        let other : is_in points c ≡ false = members c ∙ ap (λ b. nat_lt c point_count && b) none ∙ and-false (nat_lt c point_count) in
        (asks.others c inside other ∙ ready.still c inside, (others_stay F G (asked F) Q points turn_of c lt other).1);
  }

  pub turned : (changed : List ℕ) (S : ℕ → Record) (B : ℕ → List Query) → IsAgain R G points changed S → AsksAnew G points N B → IsTurned F G S A B Q changed
  turned changed S B again asks = record {
    valid = next_is_valid F G (asked F) Q points turn_of again.has;
    records = records_next changed S again;
    kept = rekept B asks;
    changed = changed_is changed S again;
  }
