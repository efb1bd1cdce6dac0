-- The text of the answers to questions.
-- span_entry s             the line of a span: one code point, or the first and the last joined by `..`, and LF
-- members_in spans         how many code points lie in the spans together
-- members_text spans       the members that a question is answered with: a line for each span, and `# total N` with their number
-- set_section line spans   the answer to the question on this line: `# line L`, its members, and an empty line
use Rattle.std.specs.Prelude.{ℕ, ◌+◌, ◌-◌, List, ◌++◌, codes, sum_by, decimal, flat_map}
use Rattle.ucd_points.specs.Bounds.{Bounds}
use Rattle.ucd_model.specs.DerivedText.{line_end}
use Rattle.ucd_points.specs.HexText.{span_text}

abbrev pub span_entry : Bounds → List ℕ
span_entry s = span_text s ++ line_end

abbrev pub members_in : List Bounds → ℕ
members_in spans = sum_by (λ s. s.hi + 1 - s.lo) spans

abbrev pub members_text : List Bounds → List ℕ
members_text spans = flat_map span_entry spans ++ codes "# total " ++ decimal (members_in spans) ++ line_end

abbrev pub set_section : ℕ → List Bounds → List ℕ
set_section line spans = codes "# line " ++ decimal line ++ line_end ++ members_text spans ++ line_end
