-- The records of the first code points, and of more of them.
use Rattle.std.proofs.Common.{◌≡◌, ℕ, ◌+◌, ◌-◌, ◌<◌, ◌≤◌, Option, Some, None, Ok, Err, refl, sym, ap, subst, ◌∙◌, arith, inl, inr}
use Rattle.std.proofs.lemmas.Bool.{cases_lt}
use Rattle.std.proofs.lemmas.Bool.Decides.{nat_tests}
use Rattle.ucd_facts.specs.Facts.{Facts}
use Rattle.ucd_points.specs.Limits.{point_count}
use Rattle.ucd_facts.specs.Predicates.{is_visible_format}
use Rattle.ucd_model.specs.Records.{Record, kept_record, record_at, record_or_rule, derived}
use Rattle.ucd_facts.specs.Uniform.{IsPlain, Uniform}
use Rattle.ucd_model.specs.Validity.{broken}
use Rattle.ucd_model.specs.ValidityLaws.{IsValid}
use Rattle.ucd_model.specs.ValidityProofs.{broken_is_least}
use Rattle.ucd_facts.specs.declared.form.Bad.{Bad as Rule}
use Rattle.ucd_points.specs.Bounds.{Bounds}
use Rattle.ucd_points.specs.Stretches.{HoldsTo}
use Rattle.identifier_closure.specs.UniformProofs.{uniform_derived}
use Rattle.range_table.specs.Values.{SameValues, with_span}
use Rattle.edit_session.specs.Benches.{NamesBroken}
use Rattle.edit_session.specs.FirstRecords.{DerivedBelow, IsFound, IsRecordSpan, IsValidBelow, SameRecords}
use Rattle.edit_session.specs.declared.first_points.RecordSpan.{RecordSpan}
use Rattle.edit_session.specs.declared.open_stop.OpenStop.{OpenStop}
use Rattle.edit_session.specs.declared.open_stop.OpenStop.TheVariants.{Invalid, Memory}

pub is_point : (c number : ℕ) → number ≡ c → number < 1114112 → c < point_count
unfolding point_count
is_point c number same lt = omega (arith, same, lt)

pub all_count : 1114112 ≡ point_count
unfolding point_count
all_count = refl

-- ---- records

pub first_below : (R : ℕ → Record) (F : ℕ → Facts) (here : Record) → derived F 0 ≡ Ok here → SameValues R (λ _. here) → DerivedBelow R 1 F
first_below R F here is same = λ c lt.
    let zero : c ≡ 0 = omega (arith, lt) in
    ap (derived F) zero ∙ is ∙ ap (λ (S : Record). Ok S) (sym (same c (omega (arith, lt))))

-- ---- runs

pub run_is : (F : ℕ → Facts) (c end : ℕ) (here : Record) (run : RecordSpan) → run.span ≡ record { lo = c; hi = end - 1 } → kept_record run.value ≡ here → c < end → end ≤ 1114112
    → ((d : ℕ) → c ≤ d → d < end → derived F d ≡ Ok here) → IsRecordSpan F run
run_is F c end here run span record_is some inside same =
    let lo : run.span.lo ≡ c = ap (λ (s : Bounds). s.lo) span in
    let hi : run.span.hi ≡ end - 1 = ap (λ (s : Bounds). s.hi) span in
    record {
      ordered = omega arith;
      inside = omega arith;
      records = λ d from to. same d (omega (arith, from)) (omega (arith, to)) ∙ ap (λ (R : Record). Ok R) (sym record_is);
    }

-- a run is put behind what is derived already
pub run_put : (old new : ℕ → Record) (F : ℕ → Facts) (run : RecordSpan) → IsRecordSpan F run → DerivedBelow old run.span.lo F → SameValues new (with_span old run.span.lo run.span.hi (kept_record run.value)) → DerivedBelow new (run.span.hi + 1) F
run_put old new F run is holds put = λ c lt.
    let inside : run.span.hi < 1114112 = is.inside in
    elim (cases_lt c run.span.lo) [
      | inl less ↦ holds c less ∙ ap (λ (R : Record). Ok R) (sym (put c (omega (arith, lt, inside)) ∙ outside c less))
      | inr past ↦ is.records c past (omega (arith, lt)) ∙ ap (λ (R : Record). Ok R) (sym (put c (omega (arith, lt, inside)) ∙ within c past lt))
    ]
  where
    outside : (c : ℕ) → c < run.span.lo → with_span old run.span.lo run.span.hi (kept_record run.value) c ≡ old c
    outside c less = grind (arith, nat_tests)

    within : (c : ℕ) → run.span.lo ≤ c → c < run.span.hi + 1 → with_span old run.span.lo run.span.hi (kept_record run.value) c ≡ kept_record run.value
    within c past lt = grind (arith, nat_tests)

-- no point up to the end of a run breaks a rule
pub run_valid : (R : ℕ → Record) (F : ℕ → Facts) (run : RecordSpan) (end : ℕ) → IsRecordSpan F run → DerivedBelow R run.span.lo F → end ≡ run.span.hi + 1 → IsValidBelow F end
run_valid R F run end is holds past = λ c lt.
    elim (cases_lt c run.span.lo) [
      | inl less ↦ (R c, holds c less)
      | inr here ↦ (kept_record run.value, is.records c here (omega (arith, lt, past)))
    ]

-- two runs of one record are one
pub run_joined : (F : ℕ → Facts) (run next left : RecordSpan) → IsRecordSpan F run → IsRecordSpan F next → next.span.lo ≡ run.span.hi + 1 → kept_record run.value ≡ kept_record next.value
    → left.span.lo ≡ run.span.lo → left.span.hi ≡ next.span.hi → kept_record left.value ≡ kept_record run.value → IsRecordSpan F left
run_joined F run next left is then follows same lo hi record_is =
    let low : run.span.lo ≤ run.span.hi = is.ordered in
    let high : next.span.lo ≤ next.span.hi = then.ordered in
    let inside : next.span.hi < 1114112 = then.inside in
    record {
      ordered = omega arith;
      inside = omega arith;
      records = λ c from to.
          elim (cases_lt c next.span.lo) [
            | inl less ↦ is.records c (omega (arith, from)) (omega (arith, less)) ∙ ap (λ (R : Record). Ok R) (sym record_is)
            | inr past ↦ then.records c past (omega (arith, to)) ∙ ap (λ (R : Record). Ok R) (sym (record_is ∙ same))
          ];
    }

ok_is : (R S : Record) (b : Option Rule) → record_or_rule R b ≡ Ok S → R ≡ S
ok_is R S None e = cc
ok_is R S (Some rule) e = cc

pub all_valid : (R : ℕ → Record) (n : ℕ) (F : ℕ → Facts) → n ≡ point_count → DerivedBelow R n F → IsValid F
all_valid R n F all holds = λ c lt. (R c, holds c (subst (λ k. c < k) (sym all) lt))

pub all_records : (R S : ℕ → Record) (n : ℕ) (F : ℕ → Facts) → n ≡ point_count → DerivedBelow R n F → SameValues S R → SameRecords S (record_at F)
unfolding point_count
all_records R S n F all holds same = λ c lt. same c lt ∙ sym (ok_is (record_at F c) (R c) (broken F c) (holds c (subst (λ k. c < k) (sym all) lt)))

-- ---- a point without a record

pub stops : (n : ℕ) (F : ℕ → Facts) (stop : OpenStop) → n < 1114112 → IsValidBelow F n → IsFound F n (Err stop) → NamesBroken stop F
unfolding point_count
stops n F (Invalid rule point) lt holds found =
    (broken_is_least F (record { point = point; rule = rule })).1
    (record { point = subst (λ k. k < point_count) (sym found.0) lt; rule = ap (derived F) found.0 ∙ found.1; least = λ c below. holds c (subst (λ k. c < k) found.0 below) })
stops n F Memory lt holds found = tt

pub stops_first : (F : ℕ → Facts) (stop : OpenStop) → IsFound F 0 (Err stop) → NamesBroken stop F
stops_first F stop found = stops 0 F stop (omega arith) (λ c lt. absurd (omega (arith, lt))) found

-- ---- points that stand together

pub uniform_run : (F : ℕ → Facts) (c last shown end d : ℕ) → IsPlain c (F c) → HoldsTo (Uniform F c) c last → ((k : ℕ) → c ≤ k → k < shown → is_visible_format k ≡ is_visible_format c)
    → end ≤ last + 1 → end ≤ shown → c ≤ d → d < end → derived F d ≡ derived F c
uniform_run F c last shown end d plain stretch visible within below from lt =
    uniform_derived F c d plain (stretch.each d from (omega (arith, within, lt))) (visible d from (omega (arith, below, lt)))
