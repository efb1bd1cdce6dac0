-- A set has no more members than there are code points.
use Rattle.std.proofs.Common.{◌≡◌, ℕ, ◌+◌, ◌-◌, ◌≤◌, Bool, List, [], ◌∷◌, map, length, is_some, Result, Ok, Err, refl, sym, ap, subst, ◌∙◌, arith, sum_by, IfOk}
use Rattle.std.specs.List.{range_with_len}
use Rattle.std.proofs.lemmas.List.FromFn.{length-range_with_len}
use Rattle.std.proofs.lemmas.List.Sums.{count_by-le-length, sum_by-cons}
use Rattle.ucd_points.specs.Bounds.{Bounds}
use Rattle.ucd_laws.specs.LabelLaws.{span_length}
use Rattle.ucd_laws.specs.LabelLawProofs.{labelled_is_their_length}
use Rattle.ucd_model.specs.Labels.{LabelSpan, label_spans, labelled}
use Rattle.ucd_points.specs.Limits.{point_count}
use Rattle.release_rows.specs.FileItems.{FileItem}
use Rattle.unicodeset_eval.specs.Members.{member_label, member_spans}
use Rattle.unicodeset_eval.specs.Questions.{NameFault, members, names_of, spans_of}
use Rattle.unicodeset_parser.specs.Trees.{Tree}
use Rattle.set_answers.specs.Questions.{AskedAs, files_hold, files_sources, name_fault, named_answer, tree_answer}
use Rattle.set_answers.specs.SetTexts.{members_in}
use Rattle.set_answers.specs.declared.ask_stop.AskFault.{AskFault}
use Rattle.set_answers.specs.declared.ask_stop.AskStop.{AskStop}
use Rattle.set_answers.specs.declared.ask_stop.AskStop.TheVariants.{Fault, Memory}

members_mapped : (spans : List LabelSpan) → members_in (map (λ (s : LabelSpan). s.bounds) spans) ≡ sum_by span_length spans
members_mapped [] = refl
members_mapped (s ∷ spans) =
    sum_by-cons (λ (b : Bounds). b.hi + 1 - b.lo) s.bounds (map (λ (x : LabelSpan). x.bounds) spans)
    ∙ ap (λ (k : ℕ). span_length s + k) (members_mapped spans)
    ∙ sym (sum_by-cons span_length s spans)

few_members : (n : ℕ) (p : ℕ → Bool) → members_in (member_spans n p) ≤ n
few_members n p =
    let f = member_label p in
    let same : members_in (member_spans n p) ≡ labelled n f = members_mapped (label_spans n f) ∙ sym (labelled_is_their_length n f) in
    let few : labelled n f ≤ length (range_with_len 0 n) = count_by-le-length (λ c. is_some (f c)) (range_with_len 0 n) in
    let all : length (range_with_len 0 n) ≡ n = length-range_with_len 0 n in
    omega (arith, same, few, all)

ok_is : (x y : List Bounds) (r : Result (List Bounds) AskFault) → r ≡ Ok x → r ≡ Ok y → x ≡ y
ok_is x y r p q = cc

err_ok : (fault : AskFault) (x : List Bounds) (r : Result (List Bounds) AskFault) → r ≡ Err fault → r ≡ Ok x → ⊥
err_ok fault x r p q = cc

few_named : (n : ℕ) (set : Result (ℕ → Bool) NameFault) (spans : List Bounds) → named_answer (spans_of n set) ≡ Ok spans → members_in spans ≤ n
few_named n (Ok p) spans e = subst (λ (s : List Bounds). members_in s ≤ n) (ok_is (member_spans n p) spans (named_answer (spans_of n (Ok p))) refl e) (few_members n p)
few_named n (Err f) spans e = absurd (err_ok (name_fault f) spans (named_answer (spans_of n (Err f))) refl e)

pub few_asked : (files : List (List FileItem)) (tree : Tree) (result : Result (List Bounds) AskStop) → AskedAs result (tree_answer files tree) → IfOk result (λ spans. members_in spans ≤ point_count)
few_asked files tree (Ok spans) asked = few_named point_count (members (names_of (files_sources files)) (files_hold files) tree) spans asked
few_asked files tree (Err (Fault refusal)) asked = tt
few_asked files tree (Err Memory) asked = tt
