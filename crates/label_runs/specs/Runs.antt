-- A section as far as it is written: the lines of the spans that have ended, and the run of one label that is open.
-- lines_before n f m        the lines of the spans that begin before m
-- run_line first end label  the line of a run from `first` to before `end`; none where it has no label
-- run_length first end label   how many code points it lists
-- IsStretch n f lo end label   from `lo` to before `end` the label is this one
-- IsOpen n f first end label   so it is from `first` to before `end`, and the number before `first` has another label; only
--                           at the beginning is the run empty, and then it has no label
-- text_shown t              the label with the text t
use Rattle.std.specs.Prelude.{◌≡◌, ◌≤◌, ◌<◌, ◌+◌, ◌-◌, ℕ, List, [], Option, Some, None, false, flat_map}
use Rattle.std.specs.Borrow.{Bor}
use Rattle.ucd_model.specs.Labels.{Label, same_label}
use Rattle.ucd_model.specs.LabelLemmas.{spans_before}
use Rattle.ucd_model.specs.DerivedText.{span_line}

abbrev pub lines_before : ℕ → (ℕ → Label) → ℕ → List ℕ
lines_before n f m = flat_map span_line (spans_before n f m)

abbrev pub run_line : ℕ → ℕ → Label → List ℕ
run_line first end (Some text) = span_line (record { bounds = record { lo = first; hi = end - 1 }; label = text })
run_line first end None = []

abbrev pub run_length : ℕ → ℕ → Label → ℕ
run_length first end (Some text) = end - first
run_length first end None = 0

pub record IsStretch (n : ℕ) (f : ℕ → Label) (lo end : ℕ) (label : Label) : Type 0 where
  pub some : lo < end
  pub inside : end ≤ n
  pub alike : (k : ℕ) → lo ≤ k → k < end → f k ≡ label

pub record IsOpen (n : ℕ) (f : ℕ → Label) (first end : ℕ) (label : Label) : Type 0 where
  pub ordered : first ≤ end
  pub inside : end ≤ n
  pub alike : (k : ℕ) → first ≤ k → k < end → f k ≡ label
  pub starts : (k : ℕ) → k + 1 ≡ first → same_label (f k) label ≡ false
  pub empty : first ≡ end → (first ≡ 0) × (label ≡ None)

abbrev pub text_shown : Option (Bor (List ℕ)) → Label
text_shown None = None
text_shown (Some text) = Some text.now
