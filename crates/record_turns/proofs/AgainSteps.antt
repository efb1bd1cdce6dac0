-- What is derived again, point by point.
use Rattle.std.proofs.Common.{◌≡◌, ◌≢◌, ℕ, suc, ◌+◌, ◌<◌, Bool, true, false, not, cond, ◌||◌, List, [], ◌∷◌, ◌++◌, length, take, drop, get_or, filter, Option, Some, None, Ok, Err, inl, inr, ◌==◌, refl, sym, ap, subst, ◌∙◌, arith, Decides, append-nil, take-append-drop}
use Rattle.std.proofs.Math.Seq.{drop-cons, take-suc}
use Rattle.std.proofs.lemmas.Bool.{cases_eq, or_cases, true≢false, or_parts}
use Rattle.std.proofs.lemmas.Bool.Decides.{nat_tests, same_from_decides}
use Rattle.std.proofs.lemmas.List.Elements.{filter-append}
use Rattle.std.proofs.lemmas.List.Folds.{list_any-append}
use Rattle.std.proofs.Math.Bool.{or-true}
use Rattle.ucd_facts.specs.Facts.{Facts}
use Rattle.ucd_model.specs.Records.{Record, derived, kept_record, record_at, record_or_rule}
use Rattle.ucd_model.specs.Sameness.{is_in, same_record}
use Rattle.ucd_model.specs.SamenessProofs.{records_are_told}
use Rattle.ucd_model.specs.Validity.{broken}
use Rattle.ucd_model.specs.ValidityLaws.{HasRecord}
use Rattle.ucd_facts.specs.declared.form.Bad.{Bad as Rule}
use Rattle.ucd_model.specs.declared.records.Record.{Record as KeptRecord}
use Rattle.range_table.specs.Values.{SameValues, with_span}
use Rattle.ucd_facts.specs.Answers.{is_asked}
use Rattle.ucd_facts.specs.declared.query.Query.{Query}
use Rattle.query_laws.specs.Questions.{asked}
use Rattle.query_laws.specs.Turns.{SameQueries}
use Rattle.point_queries.specs.declared.derivation.Derived.{Derived}
use Rattle.record_turns.specs.Again.{AsksAnew, IsAgain, IsAskedAnew, IsFound, IsPut, StopsAt, differs}
use Rattle.record_turns.specs.declared.again_stop.AgainStop.{AgainStop}
use Rattle.record_turns.specs.declared.again_stop.AgainStop.TheVariants.{Broken, Memory}

-- ---- what was found of a point

pub ok_is : (R S : Record) (b : Option Rule) → record_or_rule R b ≡ Ok S → S ≡ R
ok_is R S None e = cc
ok_is R S (Some rule) e = cc

kept_is : (G : ℕ → Facts) (c : ℕ) (found : Derived) → IsFound G c (Ok found) → kept_record found.value ≡ record_at G c
kept_is G c found (has, asks) = ok_is (record_at G c) (kept_record found.value) (broken G c) has

one : (same : Bool) (c : ℕ) (p : ℕ → Bool) → p c ≡ not same → cond same [] (c ∷ []) ≡ filter p (c ∷ [])
one true c p e = ap (λ b. cond b (c ∷ []) []) (sym e)
one false c p e = ap (λ b. cond b (c ∷ []) []) (sym e)

span_here : {X : Type 0} (A : ℕ → X) (c : ℕ) (x : X) → with_span A c c x c ≡ x
span_here A c x = grind (arith, nat_tests)

span_there : {X : Type 0} (A : ℕ → X) (c d : ℕ) (x : X) → d ≢ c → with_span A c c x d ≡ A d
span_there A c d x other = grind (arith, nat_tests)

pub asked_anew : (G : ℕ → Facts) (c : ℕ) (found : Derived) (A B : ℕ → List Query) → IsFound G c (Ok found) → SameValues B (with_span A c c found.asked) → IsAskedAnew G c A B
asked_anew G c found A B is spans = record {
  here = λ inside q. ap (λ (qs : List Query). is_asked qs q) (spans c inside ∙ span_here A c found.asked) ∙ is.1 q;
  others = λ d lt other. spans d lt ∙ span_there A c d found.asked other;
}

pub put_over : (G : ℕ → Facts) (r : Record) (c : ℕ) (found : Derived) (old new : List ℕ) (A B : ℕ → Record) → IsFound G c (Ok found) → IsPut r c (kept_record found.value) old new A B → IsPut r c (record_at G c) old new A B
put_over G r c found old new A B is put = subst (λ (s : Record). IsPut r c s old new A B) (kept_is G c found is) put

pub has_over : (G : ℕ → Facts) (c : ℕ) (found : Derived) → IsFound G c (Ok found) → derived G c ≡ Ok (record_at G c)
has_over G c found is = is.0 ∙ ap (λ (r : Record). Ok r) (kept_is G c found is)

-- ---- a point more

is_one : (c d : ℕ) → is_in (c ∷ []) d ≡ true → c ≡ d
is_one c d h = grind (arith, nat_tests)

any_end : (points : List ℕ) (c d : ℕ) → is_in (points ++ c ∷ []) d ≡ (is_in points d || is_in (c ∷ []) d)
any_end points c d = list_any-append (λ x. x == d) points (c ∷ [])

in_front : (points : List ℕ) (c d : ℕ) → d ≢ c → is_in (points ++ c ∷ []) d ≡ true → is_in points d ≡ true
in_front points c d other h =
    elim (or_cases (is_in points d) (is_in (c ∷ []) d) (sym (any_end points c d) ∙ h)) [
      | inl first ↦ first
      | inr last ↦ absurd (other (sym (is_one c d last)))
    ]

at_end : (points : List ℕ) (c d : ℕ) → d ≡ c → is_in (points ++ c ∷ []) d ≡ true
at_end points c d same =
    let here : is_in (c ∷ []) d ≡ true = grind (arith, nat_tests) in
    any_end points c d ∙ ap (λ b. is_in points d || b) here ∙ or-true (is_in points d)

not_front : (points : List ℕ) (c d : ℕ) → is_in (points ++ c ∷ []) d ≡ false → is_in points d ≡ false
not_front points c d h = (or_parts (is_in points d) (is_in (c ∷ []) d) (sym (any_end points c d) ∙ h)).0

pub has_more : (G : ℕ → Facts) (points : List ℕ) (c : ℕ) → ((d : ℕ) → is_in points d ≡ true → HasRecord G d) → HasRecord G c → (d : ℕ) → is_in (points ++ c ∷ []) d ≡ true → HasRecord G d
has_more G points c before here d h =
    elim (or_cases (is_in points d) (is_in (c ∷ []) d) (sym (list_any-append (λ x. x == d) points (c ∷ [])) ∙ h)) [
      | inl first ↦ before d first
      | inr last ↦ subst (HasRecord G) (is_one c d last) here
    ]

module _ (R : ℕ → Record) (G : ℕ → Facts) (points : List ℕ) (c : ℕ) (old new : List ℕ) (A B : ℕ → Record) (all : IsAgain R G points old A) (put : IsPut (R c) c (record_at G c) old new A B) where
  before : (b : Bool) → is_in points c ≡ b → R c ≡ record_at G c → A c ≡ record_at G c
  before true h same = all.anew c put.inside h
  before false h same = all.others c put.inside h ∙ same

  here : B c ≡ record_at G c
  here =
      elim put.here [
        | inl anew ↦ anew
        | inr stays ↦ stays.1 ∙ before (is_in points c) refl stays.0
      ]

  again_more : HasRecord G c → IsAgain R G (points ++ c ∷ []) new B
  again_more has = record {
    has = has_more G points c all.has has;
    changed = put.changed ∙ ap (λ (xs : List ℕ). xs ++ cond (same_record (R c) (record_at G c)) [] (c ∷ [])) all.changed
        ∙ ap (λ (xs : List ℕ). filter (differs R G) points ++ xs) (one (same_record (R c) (record_at G c)) c (differs R G) refl) ∙ sym (filter-append (differs R G) points (c ∷ []));
    anew = λ d lt h. elim (cases_eq d c) [
      | inl same ↦ subst (λ k. B k ≡ record_at G k) (sym same) here
      | inr other ↦ put.others d lt other ∙ all.anew d lt (in_front points c d other h)
    ];
    others = λ d lt h. put.others d lt (λ same. true≢false (sym (at_end points c d same) ∙ h)) ∙ all.others d lt (not_front points c d h);
  }

pub again_to : (R : ℕ → Record) (G : ℕ → Facts) (points : List ℕ) (i c : ℕ) (old new : List ℕ) (A B R' : ℕ → Record) → i < length points → c ≡ get_or points i c → IsAgain R G (take i points) old A → SameValues R' R
    → derived G c ≡ Ok (record_at G c) → IsPut (R' c) c (record_at G c) old new A B → IsAgain R G (take (i + 1) points) new B
again_to R G points i c old new A B R' lt is all same has put =
    let next : suc i ≡ i + 1 = omega arith in
    let front : take i points ++ c ∷ [] ≡ take (i + 1) points = ap (λ k. take i points ++ k ∷ []) is ∙ sym (take-suc points i c lt) ∙ ap (λ k. take k points) next in
    let now : IsPut (R c) c (record_at G c) old new A B = subst (λ (r : Record). IsPut r c (record_at G c) old new A B) (same c put.inside) put in
    subst (λ (xs : List ℕ). IsAgain R G xs new B) front (again_more R G (take i points) c old new A B all now (record_at G c, has))

-- ---- what is asked

anew_more : (G : ℕ → Facts) (points : List ℕ) (c : ℕ) (A B C : ℕ → List Query) → AsksAnew G points A B → IsAskedAnew G c B C → AsksAnew G (points ++ c ∷ []) A C
anew_more G points c A B C before one = record {
  anew = λ d lt h. elim (cases_eq d c) [
    | inl same ↦ subst (λ k. SameQueries (C k) (asked G k)) (sym same) (one.here (subst (λ k. k < 1114112) same lt))
    | inr other ↦ λ q. ap (λ (qs : List Query). is_asked qs q) (one.others d lt other) ∙ before.anew d lt (in_front points c d other h) q
  ];
  others = λ d lt h. one.others d lt (λ same. true≢false (sym (at_end points c d same) ∙ h)) ∙ before.others d lt (not_front points c d h);
}

pub anew_to : (G : ℕ → Facts) (points : List ℕ) (i c : ℕ) (A B C : ℕ → List Query) → i < length points → c ≡ get_or points i c → AsksAnew G (take i points) A B → IsAskedAnew G c B C → AsksAnew G (take (i + 1) points) A C
anew_to G points i c A B C lt is all more =
    let next : suc i ≡ i + 1 = omega arith in
    let front : take i points ++ c ∷ [] ≡ take (i + 1) points = ap (λ k. take i points ++ k ∷ []) is ∙ sym (take-suc points i c lt) ∙ ap (λ k. take k points) next in
    subst (λ (xs : List ℕ). AsksAnew G xs A C) front (anew_more G (take i points) c A B C all more)

-- ---- a point without a record

pub stops : (G : ℕ → Facts) (points : List ℕ) (i c : ℕ) (stop : AgainStop) → i < length points → c ≡ get_or points i c → ((d : ℕ) → is_in (take i points) d ≡ true → HasRecord G d) → IsFound G c (Err stop) → StopsAt G points stop
stops G points i c (Broken rule point) lt is before found =
    let same : point ≡ get_or points i c = found.0 ∙ is in
    let split : points ≡ take i points ++ point ∷ drop (suc i) points =
    sym (take-append-drop i points) ∙ ap (λ (xs : List ℕ). take i points ++ xs) (drop-cons points i c lt) ∙ ap (λ k. take i points ++ k ∷ drop (suc i) points) (sym same) in
    (take i points, drop (suc i) points, split, before, ap (derived G) found.0 ∙ found.1)
stops G points i c Memory lt is before found = tt

-- ---- whether the record is another

told_is : (R : ℕ → Record) (c : ℕ) (kept value : KeptRecord) (t : Bool) → kept_record kept ≡ R c → Decides t (kept_record kept ≡ kept_record value) → t ≡ same_record (R c) (kept_record value)
told_is R c kept value t shown told =
    same_from_decides t (same_record (kept_record kept) (kept_record value)) told (records_are_told (kept_record kept) (kept_record value)) ∙ ap (λ (r : Record). same_record r (kept_record value)) shown

module _ (R : ℕ → Record) (c : ℕ) (value kept : KeptRecord) (old new : List ℕ) (A B : ℕ → Record) (t : Bool) (inside : c < 1114112) (shown : kept_record kept ≡ R c) (told : Decides t (kept_record kept ≡ kept_record value)) where
  pub put_one : t ≡ false → new ≡ old ++ c ∷ [] → SameValues B (with_span A c c (kept_record value)) → IsPut (R c) c (kept_record value) old new A B
  put_one e changed spans =
      let same : same_record (R c) (kept_record value) ≡ false = sym (told_is R c kept value t shown told) ∙ e in
      record {
        inside = inside;
        changed = changed ∙ ap (λ b. old ++ cond b [] (c ∷ [])) (sym same);
        here = inl (spans c inside ∙ span_here A c (kept_record value));
        others = λ d lt other. spans d lt ∙ span_there A c d (kept_record value) other;
      }

  pub put_none : t ≡ true → new ≡ old → SameValues B A → IsPut (R c) c (kept_record value) old new A B
  put_none e changed stays =
      let same : same_record (R c) (kept_record value) ≡ true = sym (told_is R c kept value t shown told) ∙ e in
      record {
        inside = inside;
        changed = changed ∙ sym (append-nil old) ∙ ap (λ b. old ++ cond b [] (c ∷ [])) (sym same);
        here = inr ((records_are_told (R c) (kept_record value)).0 same, stays c inside);
        others = λ d lt other. stays d lt;
      }
