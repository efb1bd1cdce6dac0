-- The code points of rows.
-- one_point c     the code points from c to c
-- span_in row     the code points that the row speaks of; the one of a folding or a casing; None of a row of names
use Rattle.std.specs.Prelude.{ℕ, Option, Some, None}
use Rattle.ucd_points.specs.Bounds.{Bounds}
use Rattle.ucd_facts.specs.declared.row.Row.{Row}
use Rattle.ucd_facts.specs.declared.row.Row.TheVariants.{Unit as DataLine, Value as ValueLine, Exclusion as ExclusionLine, Fold as FoldLine, Casing as CasingLine, Alias as AliasLine, Missing as MissingLine}

abbrev pub one_point : ℕ → Bounds
one_point c = record { lo = c; hi = c }

abbrev pub span_in : Row → Option Bounds
span_in (DataLine row) = Some row.span
span_in (ValueLine row) = Some row.span
span_in (ExclusionLine row) = Some row.span
span_in (FoldLine row) = Some (one_point row.code)
span_in (CasingLine row) = Some (one_point row.code)
span_in (AliasLine row) = None
span_in (MissingLine row) = Some row.span
