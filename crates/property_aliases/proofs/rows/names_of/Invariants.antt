use Rattle.std.proofs.Common.{◌≡◌, ◌++◌, length}
use Rattle.property_aliases.specs.Sources.{alias_rows, unnumbered}
use Rattle.property_aliases.proofs.rows.names_of.Given as goal

abbrev pub invariant-rows : goal.invariant-rows
invariant-rows l = l.all ++ alias_rows (unnumbered l.rows) ≡ alias_rows (unnumbered l.initial.rows)

abbrev pub decreases-rows : goal.decreases-rows
decreases-rows l = length l.rows
