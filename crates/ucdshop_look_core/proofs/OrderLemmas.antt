-- Code points that are kept of all of them are in order, and their spans have as many as they are.
use Rattle.std.proofs.Common.{◌≡◌, ℕ, ◌+◌, ◌-◌, ◌≤◌, Bool, true, false, cond, List, [], ◌∷◌, map, filter, length, Some, None, is_some, refl, sym, ap, ◌∙◌, arith, count_by, sum_by}
use Rattle.std.specs.List.{range_with_len}
use Rattle.std.proofs.lemmas.List.Elements.{filter_agree}
use Rattle.std.proofs.lemmas.List.FromFn.{length-range_with_len}
use Rattle.std.proofs.lemmas.List.Sums.{count_by-le-length, length-filter, sum_by-cons}
use Rattle.ucd_points.specs.PlainProofs.{filter_alike}
use Rattle.ucd_points.specs.Bounds.{Bounds}
use Rattle.ucd_points.specs.Limits.{point_count}
use Rattle.ucd_laws.specs.LabelLaws.{span_length}
use Rattle.ucd_laws.specs.LabelLawProofs.{labelled_is_their_length}
use Rattle.ucd_model.specs.Labels.{Label, LabelSpan, label_spans}
use Rattle.ucd_model.specs.Sameness.{is_in}
use Rattle.unicodeset_eval.specs.Members.{member_label, member_spans}
use Rattle.ucd_model.specs.KeptNumbers.{in_kept}
use Rattle.set_answers.specs.SetTexts.{members_in}
use Rattle.ucdshop_look_core.specs.PointSpans.{AreInOrder, point_spans}

kept_again : (p : ℕ → Bool) (n : ℕ) → filter p (range_with_len 0 n) ≡ filter (is_in (filter p (range_with_len 0 n))) (range_with_len 0 n)
kept_again p n = filter_alike p (is_in (filter p (range_with_len 0 n))) 0 n (λ k low high. sym (in_kept p n k (omega arith)))

pub kept_are_in_order : (p : ℕ → Bool) → AreInOrder (filter p (range_with_len 0 point_count))
kept_are_in_order p = kept_again p point_count

-- ---- how many they are

mapped : (spans : List LabelSpan) → members_in (map (λ (s : LabelSpan). s.bounds) spans) ≡ sum_by span_length spans
mapped [] = refl
mapped (s ∷ spans) =
    sum_by-cons (λ (b : Bounds). b.hi + 1 - b.lo) s.bounds (map (λ (x : LabelSpan). x.bounds) spans)
    ∙ ap (λ (k : ℕ). span_length s + k) (mapped spans)
    ∙ sym (sum_by-cons span_length s spans)

has_label : (p : ℕ → Bool) (c : ℕ) → is_some (member_label p c) ≡ p c
has_label p c = by (p c)
  where
    by : (b : Bool) → is_some (let label : Label = cond b (Some []) None in label) ≡ b
    by true = refl
    by false = refl

members_of : (p : ℕ → Bool) (n : ℕ) → members_in (member_spans n p) ≡ length (filter p (range_with_len 0 n))
members_of p n =
    mapped (label_spans n (member_label p))
    ∙ sym (labelled_is_their_length n (member_label p))
    ∙ sym (length-filter (λ c. is_some (member_label p c)) (range_with_len 0 n))
    ∙ ap (λ (xs : List ℕ). length xs) (filter_agree (λ c. is_some (member_label p c)) p (has_label p) (range_with_len 0 n))

pub members_in_order : (points : List ℕ) → AreInOrder points → members_in (point_spans points) ≡ length points
members_in_order points order = members_of (is_in points) point_count ∙ ap (λ (xs : List ℕ). length xs) (sym order)

few : (p : ℕ → Bool) (n : ℕ) → members_in (member_spans n p) ≤ n
few p n =
    let kept : members_in (member_spans n p) ≡ length (filter p (range_with_len 0 n)) = members_of p n in
    let counted : length (filter p (range_with_len 0 n)) ≡ count_by p (range_with_len 0 n) = length-filter p (range_with_len 0 n) in
    let few : count_by p (range_with_len 0 n) ≤ length (range_with_len 0 n) = count_by-le-length p (range_with_len 0 n) in
    let all : length (range_with_len 0 n) ≡ n = length-range_with_len 0 n in
    omega (arith, kept, counted, few, all)

pub few_members : (points : List ℕ) → members_in (point_spans points) ≤ point_count
few_members points = few (is_in points) point_count
