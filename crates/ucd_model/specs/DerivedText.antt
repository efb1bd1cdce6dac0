-- The text of the derived files. The files are those of UAX #44, section 5.3; their text is this project's own.
-- line_end                LF
-- span_line s             the line of a span: its text, its label, LF
-- section_text name n f   `# NAME`, a line for each span with its label behind it, `# total N`, and an empty line
use Rattle.std.specs.Prelude.{ℕ, List, [], ◌∷◌, ◌++◌, codes, flat_map, decimal}
use Rattle.ucd_points.specs.HexText.{span_text}
use Rattle.ucd_model.specs.Labels.{Label, LabelSpan, label_spans, labelled}

abbrev pub line_end : List ℕ
line_end = 10 ∷ []

abbrev pub span_line : LabelSpan → List ℕ
span_line s = span_text s.bounds ++ s.label ++ line_end

unfoldable pub section_text : List ℕ → ℕ → (ℕ → Label) → List ℕ
section_text name n f = codes "# " ++ name ++ line_end ++ flat_map span_line (label_spans n f) ++ codes "# total " ++ decimal (labelled n f) ++ line_end ++ line_end
