-- Maximal spans of equal value, over the numbers below n.
-- Label             the text that stands behind a span; None where the value is the default, which is not listed
-- same_label a b    the same text, or none on both sides
-- begins f c        a span begins at c: c has a label, and c - 1 has another one or none; at 0, c has a label
-- span_end n f c    the last number of the span that begins at c
-- LabelSpan         a span, and the label of its numbers
-- span_from n f c   the span that begins at c, with the label of c; the empty text where c has none
-- label_spans n f   the spans in ascending order, each with its label
-- labelled n f      how many of the numbers have a label
use Rattle.std.specs.Prelude.{ℕ, zero, suc, ◌+◌, ◌-◌, Bool, ◌&&◌, not, List, map, filter, Option, is_some, unwrap_or, [], count_by, bytes_eq}
use Rattle.std.specs.List.{range_with_len, prefix_len}
use Rattle.std.specs.Option.{option_eq}
use Rattle.ucd_points.specs.Bounds.{Bounds}

abbrev pub Label : Type 0
Label = Option (List ℕ)

abbrev pub same_label : Label → Label → Bool
same_label a b = option_eq bytes_eq a b

abbrev pub begins : (ℕ → Label) → ℕ → Bool
begins f zero = is_some (f zero)
begins f (suc c) = is_some (f (suc c)) && not (same_label (f c) (f (suc c)))

abbrev pub span_end : ℕ → (ℕ → Label) → ℕ → ℕ
span_end n f c = c + prefix_len (λ d. same_label (f c) (f d)) (range_with_len (c + 1) (n - (c + 1)))

pub record LabelSpan : Type 0 where
  pub bounds : Bounds
  pub label : List ℕ

abbrev pub span_from : ℕ → (ℕ → Label) → ℕ → LabelSpan
span_from n f c = record { bounds = record { lo = c; hi = span_end n f c }; label = unwrap_or (f c) [] }

abbrev pub label_spans : ℕ → (ℕ → Label) → List LabelSpan
label_spans n f = map (span_from n f) (filter (begins f) (range_with_len 0 n))

abbrev pub labelled : ℕ → (ℕ → Label) → ℕ
labelled n f = count_by (λ c. is_some (f c)) (range_with_len 0 n)
