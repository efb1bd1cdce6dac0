-- What the maximal spans of equal value are, for every n and every label function f.
-- IsSpanAt n f i s          s is the span at place i, counted from 0, among the spans of f below n
-- Covers s c                the number c lies in the span s
-- span_length s             how many numbers lie in s
-- IsMaximalStretch n f s    s has a number in it, its numbers are below n and all have its label, and neither the number
--                           before it nor the one after it below n has that label
-- SpansLieBelow             a span has a number in it, and all of them are below n
-- SpansHaveOneLabel         every number in a span has the span's label
-- SpansAreMaximal           neither the number before a span nor the one after it below n has the span's label
-- StretchesAreSpans         every maximal stretch of numbers with one label is one of the spans
-- SpansAscend               a span ends before the next begins
-- SpansDoNotTouch           where the next span begins right after a span, their labels differ
-- SpansAreDisjoint          no number lies in two spans
-- LabelledLieInASpan        every number below n that has a label lies in a span
-- OthersLieInNoSpan         no number without a label lies in a span
-- LabelledCountIsSpanTotal     the numbers below n that have a label are as many as lie in the spans together
use Rattle.std.specs.Prelude.{◌≡◌, ◌≢◌, ◌≤◌, ◌<◌, ◌+◌, ◌-◌, ℕ, Some, None, IsSome, slice_get, sum_by}
use Rattle.ucd_model.specs.Labels.{Label, LabelSpan, label_spans, labelled}

abbrev pub IsSpanAt : ℕ → (ℕ → Label) → ℕ → LabelSpan → Type 0
IsSpanAt n f i s = slice_get (label_spans n f) i ≡ Some s

abbrev pub Covers : LabelSpan → ℕ → Type 0
Covers s c = (s.bounds.lo ≤ c) × (c ≤ s.bounds.hi)

abbrev pub span_length : LabelSpan → ℕ
span_length s = s.bounds.hi + 1 - s.bounds.lo

pub record IsMaximalStretch (n : ℕ) (f : ℕ → Label) (s : LabelSpan) : Type 0 where
  pub ordered : s.bounds.lo ≤ s.bounds.hi
  pub below : s.bounds.hi < n
  pub alike : (c : ℕ) → Covers s c → f c ≡ Some s.label
  pub before : (c : ℕ) → c + 1 ≡ s.bounds.lo → f c ≢ Some s.label
  pub after : s.bounds.hi + 1 < n → f (s.bounds.hi + 1) ≢ Some s.label

abbrev pub SpansLieBelow : Type 0
SpansLieBelow = (n : ℕ) (f : ℕ → Label) (i : ℕ) (s : LabelSpan) → IsSpanAt n f i s → (s.bounds.lo ≤ s.bounds.hi) × (s.bounds.hi < n)

abbrev pub SpansHaveOneLabel : Type 0
SpansHaveOneLabel = (n : ℕ) (f : ℕ → Label) (i : ℕ) (s : LabelSpan) → IsSpanAt n f i s → (c : ℕ) → Covers s c → f c ≡ Some s.label

abbrev pub SpansAreMaximal : Type 0
SpansAreMaximal = (n : ℕ) (f : ℕ → Label) (i : ℕ) (s : LabelSpan) → IsSpanAt n f i s → ((c : ℕ) → c + 1 ≡ s.bounds.lo → f c ≢ Some s.label) × (s.bounds.hi + 1 < n → f (s.bounds.hi + 1) ≢ Some s.label)

abbrev pub StretchesAreSpans : Type 0
StretchesAreSpans = (n : ℕ) (f : ℕ → Label) (s : LabelSpan) → IsMaximalStretch n f s → (i : ℕ) × IsSpanAt n f i s

abbrev pub SpansAscend : Type 0
SpansAscend = (n : ℕ) (f : ℕ → Label) (i : ℕ) (a b : LabelSpan) → IsSpanAt n f i a → IsSpanAt n f (i + 1) b → a.bounds.hi < b.bounds.lo

abbrev pub SpansDoNotTouch : Type 0
SpansDoNotTouch = (n : ℕ) (f : ℕ → Label) (i : ℕ) (a b : LabelSpan) → IsSpanAt n f i a → IsSpanAt n f (i + 1) b → a.bounds.hi + 1 ≡ b.bounds.lo → a.label ≢ b.label

abbrev pub SpansAreDisjoint : Type 0
SpansAreDisjoint = (n : ℕ) (f : ℕ → Label) (i j : ℕ) (a b : LabelSpan) → IsSpanAt n f i a → IsSpanAt n f j b → (c : ℕ) → Covers a c → Covers b c → i ≡ j

abbrev pub LabelledLieInASpan : Type 0
LabelledLieInASpan = (n : ℕ) (f : ℕ → Label) (c : ℕ) → c < n → IsSome (f c) → (i : ℕ) × (s : LabelSpan) × IsSpanAt n f i s × Covers s c

abbrev pub OthersLieInNoSpan : Type 0
OthersLieInNoSpan = (n : ℕ) (f : ℕ → Label) (i : ℕ) (s : LabelSpan) → IsSpanAt n f i s → (c : ℕ) → f c ≡ None → ¬ Covers s c

abbrev pub LabelledCountIsSpanTotal : Type 0
LabelledCountIsSpanTotal = (n : ℕ) (f : ℕ → Label) → labelled n f ≡ sum_by span_length (label_spans n f)
