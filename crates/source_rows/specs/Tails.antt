-- Lines of UnicodeData.txt by what stands behind the name. UAX #44, section 5.3, table 9.
-- tail_fields tail              the fields behind a name at their places in the line, and no bytes in the two before them
-- tail_values tail              the values of the fields behind a name, or their first fault; None where they are not 13
-- bare_values category class    the values of a row that gives a category and a combining class, and no mapping
-- given_or_fault values end     values and a span; the fault of the values comes before that of the span
use Rattle.std.specs.Prelude.{ℕ, List, [], ◌∷◌, length, Option, Some, None, Result, Ok, ◌==◌, if◌then◌else◌}
use Rattle.ucd_points.specs.Bounds.{Bounds}
use Rattle.ucd_facts.specs.declared.category.Category.{Category}
use Rattle.ucd_facts.specs.declared.decomposition.Kind.TheVariants.{Plain}
use Rattle.source_rows.specs.DataFaults.{values_or_fault}
use Rattle.source_rows.specs.Fields.{fields_of}
use Rattle.source_rows.specs.Steps.{and_then}
use Rattle.source_rows.specs.declared.data_values.Values.{Values}
use Rattle.source_rows.specs.declared.fault.RowFault.{RowFault}
use Rattle.source_rows.specs.declared.point_values.PointValues.{PointValues}

abbrev pub tail_fields : List ℕ → List (List ℕ)
tail_fields tail = [] ∷ [] ∷ fields_of tail

unfoldable pub tail_values : List ℕ → Option (Result Values RowFault)
tail_values tail = if length (fields_of tail) == 13 then Some (values_or_fault (tail_fields tail)) else None

abbrev pub bare_values : Category → ℕ → Values
bare_values category class = record { category = category; class = class; decomposition = record { kind = Plain; mapping = [] }; upper = None; lower = None; title = None }

abbrev pub given_or_fault : Result Values RowFault → Result Bounds RowFault → Result PointValues RowFault
given_or_fault values end = and_then values (λ v. and_then end (λ span. Ok (record { span = span; values = v })))
