-- A run grows, ends, and the next one begins.
use Rattle.std.proofs.Common.{◌≡◌, ℕ, ◌+◌, ◌-◌, ◌<◌, false, List, [], ◌∷◌, ◌++◌, Some, None, is_some, unwrap_or, sym, ap, ◌∙◌, arith, inl, inr, flat_map, append-nil}
use Rattle.std.proofs.lemmas.Bool.{cases_lt}
use Rattle.std.proofs.lemmas.Grind.{flat_map-append}
use Rattle.ucd_model.specs.Labels.{Label, LabelSpan, same_label}
use Rattle.ucd_model.specs.LabelLemmas.{IsRun, spans_before, labelled_before, run_plain, run_labelled}
use Rattle.ucd_model.specs.DerivedText.{span_line}
use Rattle.label_runs.specs.Runs.{lines_before, run_line, run_length, IsOpen}

-- a run that is not empty, as one of the runs of the labels
run_of_open : (n : ℕ) (f : ℕ → Label) (first end : ℕ) (label : Label) → IsOpen n f first end label → first < end → (end < n → same_label label (f end) ≡ false) → IsRun n f first end
run_of_open n f first end label run some other =
    let here : f first ≡ label = run.alike first (omega arith) some in
    record {
      some = some;
      inside = run.inside;
      alike = λ k low high. run.alike k low high ∙ sym here;
      other = λ lt. ap (λ (l : Label). same_label l (f end)) here ∙ other lt;
      starts = λ k e. ap (same_label (f k)) here ∙ run.starts k e;
    }

-- the lines and the number of a run that has ended
ends_as : (n : ℕ) (f : ℕ → Label) (first end : ℕ) (label : Label) → IsRun n f first end → f first ≡ label
    → (lines_before n f end ≡ lines_before n f first ++ run_line first end label) × (labelled_before f end ≡ labelled_before f first + run_length first end label)
ends_as n f first end None run here =
    let plain = run_plain n f first end run (ap is_some here) in
    (ap (flat_map span_line) plain.0 ∙ sym (append-nil (lines_before n f first)), omega (arith, plain.1))
ends_as n f first end (Some text) run here =
    let more = run_labelled n f first end run (ap is_some here) in
    let span : List ℕ → LabelSpan = λ label. record { bounds = record { lo = first; hi = end - 1 }; label = label } in
    let label : unwrap_or (f first) [] ≡ text = ap (λ (l : Label). unwrap_or l []) here in (
      ap (flat_map span_line) more.0 ∙ flat_map-append span_line (spans_before n f first) (span (unwrap_or (f first) []) ∷ [])
          ∙ ap (λ (t : List ℕ). lines_before n f first ++ t) (append-nil (span_line (span (unwrap_or (f first) []))))
          ∙ ap (λ (l : List ℕ). lines_before n f first ++ span_line (span l)) label,
      more.1,
    )

pub open_ends : (n : ℕ) (f : ℕ → Label) (first end : ℕ) (label : Label) → IsOpen n f first end label → (end < n → same_label label (f end) ≡ false)
    → (lines_before n f end ≡ lines_before n f first ++ run_line first end label) × (labelled_before f end ≡ labelled_before f first + run_length first end label)
open_ends n f first end label run other = elim (cases_lt first end) [
  | inl lt ↦ ends_as n f first end label (run_of_open n f first end label run lt other) (run.alike first (omega arith) lt)
  | inr ge ↦ let ordered = run.ordered in
      let same : end ≡ first = omega arith in
      let none : label ≡ None = (run.empty (omega arith)).1 in (
        ap (lines_before n f) same ∙ sym (append-nil (lines_before n f first)) ∙ ap (λ (l : Label). lines_before n f first ++ run_line first end l) (sym none),
        let counts : labelled_before f end ≡ labelled_before f first = ap (labelled_before f) same in
            let length : run_length first end label ≡ 0 = ap (run_length first end) none in
            omega (arith, counts, length),
      )
]
