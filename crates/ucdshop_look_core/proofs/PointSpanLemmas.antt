-- How the spans of numbers grow, number by number.
use Rattle.std.proofs.Common.{◌≡◌, ◌≢◌, ◌≤◌, ◌<◌, ◌+◌, ◌-◌, ℕ, Bool, true, false, List, [], ◌∷◌, ◌++◌, map, filter, Some, None, refl, sym, ap, ◌∙◌, arith, inl, inr}
use Rattle.std.specs.List.{range_with_len}
use Rattle.std.proofs.lemmas.Bool.{cases_lt}
use Rattle.std.proofs.lemmas.List.{map-append}
use Rattle.ucd_points.specs.Bounds.{Bounds}
use Rattle.ucd_model.specs.Labels.{LabelSpan}
use Rattle.ucd_model.specs.LabelLemmas.{IsRun, run_labelled, run_plain, spans_before}
use Rattle.unicodeset_eval.specs.Members.{member_label, member_spans}
use Rattle.ucdshop_look_core.specs.PointSpans.{IsLast}
use Rattle.ucdshop_look_core.proofs.RangeLemmas.{IsFirst, first_in, none_in}

module _ (n : ℕ) (p : ℕ → Bool) where
  listed : (k : ℕ) → p k ≡ true → member_label p k ≡ Some []
  listed k is = rw is refl

  plain : (k : ℕ) → p k ≡ false → member_label p k ≡ None
  plain k is = rw is refl

  abbrev before : ℕ → List Bounds
  before m = map (λ (x : LabelSpan). x.bounds) (spans_before n (member_label p) m)

  -- where p holds of none from a to before b, no span begins there
  none_begins : (a b : ℕ) → a ≤ b → b ≤ n → ((k : ℕ) → a ≤ k → k < b → p k ≡ false) → ((k : ℕ) → k + 1 ≡ a → p k ≡ true) → (b < n → p b ≡ true) → before b ≡ before a
  none_begins a b up inside none starts ends =
      elim (cases_lt a b) [
        | inl lt ↦
            let run : IsRun n (member_label p) a b = record {
              some = lt;
              inside = inside;
              alike = λ k low high. plain k (none k low high) ∙ sym (plain a (none a (omega arith) lt));
              other = λ below. rw (plain a (none a (omega arith) lt), listed b (ends below)) refl;
              starts = λ k next. rw (listed k (starts k next), plain a (none a (omega arith) lt)) refl;
            } in
            ap (λ (xs : List LabelSpan). map (λ (x : LabelSpan). x.bounds) xs) (run_plain n (member_label p) a b run (rw (plain a (none a (omega arith) lt)) refl)).0
        | inr ge ↦ let same : b ≡ a = omega arith in ap before same
      ]

  -- a span that goes on no more is one of those before
  ended : (spans : List Bounds) (s : Bounds) (rest : List ℕ) → IsLast n p spans s rest → (s.hi + 1 < n → p (s.hi + 1) ≡ false) → spans ++ s ∷ [] ≡ before (s.hi + 1)
  ended spans s rest last stops =
      let up = last.ordered in
      let below = last.below in
      let first : member_label p s.lo ≡ Some [] = listed s.lo (last.inside s.lo (omega arith) (omega arith)) in
      let run : IsRun n (member_label p) s.lo (s.hi + 1) = record {
        some = omega arith;
        inside = omega arith;
        alike = λ k low high. listed k (last.inside k low (omega arith)) ∙ sym first;
        other = λ more. rw (first, plain (s.hi + 1) (stops more)) refl;
        starts = λ k next. rw (plain k (last.starts k next), first) refl;
      } in
      let grown = (run_labelled n (member_label p) s.lo (s.hi + 1) run (rw first refl)).0 in
      let end : (s.hi + 1) - 1 ≡ s.hi = omega arith in
      ap (λ (xs : List Bounds). xs ++ s ∷ []) last.before
      ∙ sym (ap (λ (xs : List LabelSpan). map (λ (x : LabelSpan). x.bounds) xs) grown
      ∙ map-append (λ (x : LabelSpan). x.bounds) (spans_before n (member_label p) s.lo) _
      ∙ ap (λ (h : ℕ). let b : Bounds = record { lo = s.lo; hi = h } in before s.lo ++ b ∷ []) end)

  -- the first number begins a span
  pub opens : (c : ℕ) (rest : List ℕ) → c ∷ rest ≡ filter p (range_with_len 0 n) → IsLast n p [] (record { lo = c; hi = c }) rest
  opens c rest is =
      let first : IsFirst p 0 n c rest = first_in p 0 n c rest (sym is) in
      let to : c < 0 + n = first.to in
      let long : 0 + n - (c + 1) ≡ n - (c + 1) = omega arith in
      record {
        ordered = omega arith;
        below = omega arith;
        inside = λ k low high. let here : k ≡ c = omega arith in ap p here ∙ first.here;
        starts = λ k next. first.none k (omega arith) (omega arith);
        before = sym (none_begins 0 c (omega arith) (omega arith) first.none (λ k next. absurd (omega arith)) (λ more. first.here));
        left = first.left ∙ ap (λ (m : ℕ). filter p (range_with_len (c + 1) m)) long;
      }

  pub goes_on : (spans : List Bounds) (s : Bounds) (c : ℕ) (rest : List ℕ) → IsLast n p spans s (c ∷ rest) → s.hi + 1 ≡ c → IsLast n p spans (record { lo = s.lo; hi = c }) rest
  goes_on spans s c rest last next =
      let up = last.ordered in
      let below = last.below in
      let first : IsFirst p (s.hi + 1) (n - (s.hi + 1)) c rest = first_in p (s.hi + 1) (n - (s.hi + 1)) c rest (sym last.left) in
      let to : c < (s.hi + 1) + (n - (s.hi + 1)) = first.to in
      let long : (s.hi + 1) + (n - (s.hi + 1)) - (c + 1) ≡ n - (c + 1) = omega arith in
      record {
        ordered = omega arith;
        below = omega arith;
        inside = λ k low high. elim (cases_lt k c) [
          | inl lt ↦ last.inside k low (omega arith)
          | inr ge ↦ let here : k ≡ c = omega arith in ap p here ∙ first.here
        ];
        starts = last.starts;
        before = last.before;
        left = first.left ∙ ap (λ (m : ℕ). filter p (range_with_len (c + 1) m)) long;
      }

  pub ends_before : (spans : List Bounds) (s : Bounds) (c : ℕ) (rest : List ℕ) → IsLast n p spans s (c ∷ rest) → s.hi + 1 ≢ c → IsLast n p (spans ++ s ∷ []) (record { lo = c; hi = c }) rest
  ends_before spans s c rest last other =
      let up = last.ordered in
      let below = last.below in
      let first : IsFirst p (s.hi + 1) (n - (s.hi + 1)) c rest = first_in p (s.hi + 1) (n - (s.hi + 1)) c rest (sym last.left) in
      let from : s.hi + 1 ≤ c = first.from in
      let to : c < (s.hi + 1) + (n - (s.hi + 1)) = first.to in
      let long : (s.hi + 1) + (n - (s.hi + 1)) - (c + 1) ≡ n - (c + 1) = omega arith in
      record {
        ordered = omega arith;
        below = omega arith;
        inside = λ k low high. let here : k ≡ c = omega arith in ap p here ∙ first.here;
        starts = λ k next. first.none k (omega arith) (omega arith);
        before =
            ended spans s (c ∷ rest) last (λ more. first.none (s.hi + 1) (omega arith) (omega arith))
            ∙ sym (none_begins (s.hi + 1) c from (omega arith) first.none (λ k next. last.inside k (omega arith) (omega arith)) (λ more. first.here));
        left = first.left ∙ ap (λ (m : ℕ). filter p (range_with_len (c + 1) m)) long;
      }

  pub ends_all : (spans : List Bounds) (s : Bounds) → IsLast n p spans s [] → spans ++ s ∷ [] ≡ member_spans n p
  ends_all spans s last =
      let up = last.ordered in
      let below = last.below in
      let none : (k : ℕ) → s.hi + 1 ≤ k → k < n → p k ≡ false = λ k low high. none_in p (s.hi + 1) (n - (s.hi + 1)) (sym last.left) k low (omega arith) in
      ended spans s [] last (λ more. none (s.hi + 1) (omega arith) more)
      ∙ sym (none_begins (s.hi + 1) n (omega arith) (omega arith) none (λ k next. last.inside k (omega arith) (omega arith)) (λ more. absurd (omega arith)))
