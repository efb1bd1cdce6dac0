-- What is told of code points.
-- with_more more told   what is told of a code point, and behind it what `more` gives of the code point
use Rattle.std.specs.Prelude.{ℕ, List, ◌++◌}
use Rattle.record_lines.specs.declared.point_text.PointText.{PointText}

abbrev pub with_more : (ℕ → List ℕ) → PointText → PointText
with_more more told = record { point = told.point; text = told.text ++ more told.point }
