-- What rows of UnicodeData.txt give to their code points.
-- ShowsGiven given row      what is given is what the row gives, of UnicodeData.txt; None of the rows of the other files
use Rattle.std.specs.Prelude.{Option, Some, None}
use Rattle.ucd_facts.specs.declared.row.Row.{Row}
use Rattle.ucd_facts.specs.declared.row.Row.TheVariants.{Unit as DataLine}
use Rattle.source_rows.specs.PointValues.{Gives}
use Rattle.source_rows.specs.declared.point_values.PointValues.{PointValues}

abbrev pub ShowsGiven : Option PointValues → Row → Type 0
ShowsGiven (Some given) (DataLine row) = Gives given row
ShowsGiven (Some given) _ = ⊥
ShowsGiven None (DataLine row) = ⊥
ShowsGiven None _ = Unit {0}
