-- Proof that the rows of a code point are among those that meet its spans.
-- rows_meet   the law of the same name
use Rattle.std.proofs.Common.{◌≡◌, ℕ, true, List, [], ◌∷◌, inl, inr, arith}
use Rattle.std.specs.List.{list_any}
use Rattle.std.proofs.lemmas.Bool.{or_cases, or_left, or_right}
use Rattle.std.proofs.lemmas.Bool.Decides.{nat_tests}
use Rattle.ucd_points.specs.Bounds.{Bounds}
use Rattle.ucd_facts.specs.Facts.{within}
use Rattle.release_rows.specs.Keys.{spans_meet}
use Rattle.release_rows.specs.Operations.{row_spans}
use Rattle.release_rows.specs.Touching.{SpeakingRowsMeetSpans}

meet_one : (own span : Bounds) (c : ℕ) → within c own ≡ true → within c span ≡ true → spans_meet own span ≡ true
meet_one own span c here there = grind (arith, nat_tests)

meet_some : (own : Bounds) (spans : List Bounds) (c : ℕ) → within c own ≡ true → list_any (within c) spans ≡ true → list_any (spans_meet own) spans ≡ true
meet_some own [] c here is = is
meet_some own (span ∷ spans) c here is =
    elim (or_cases (within c span) (list_any (within c) spans) is) [
      | inl first ↦ or_left (spans_meet own span) (list_any (spans_meet own) spans) (meet_one own span c here first)
      | inr rest ↦ or_right (spans_meet own span) (list_any (spans_meet own) spans) (meet_some own spans c here rest)
    ]

meet_all : (owns spans : List Bounds) (c : ℕ) → list_any (within c) spans ≡ true → list_any (within c) owns ≡ true → list_any (λ own. list_any (spans_meet own) spans) owns ≡ true
meet_all [] spans c there is = is
meet_all (own ∷ owns) spans c there is =
    elim (or_cases (within c own) (list_any (within c) owns) is) [
      | inl first ↦ or_left (list_any (spans_meet own) spans) (list_any (λ o. list_any (spans_meet o) spans) owns) (meet_some own spans c first there)
      | inr rest ↦ or_right (list_any (spans_meet own) spans) (list_any (λ o. list_any (spans_meet o) spans) owns) (meet_all owns spans c there rest)
    ]

pub rows_meet : SpeakingRowsMeetSpans
rows_meet spans c row there speaks = meet_all (row_spans row) spans c there speaks
