use Rattle.std.proofs.Common.{◌≡◌, ◌++◌, List, fold, length}
use Rattle.ucd_facts.specs.declared.row.ValueRow.{ValueRow}
use Rattle.property_aliases.specs.Numbers.{AreNumbered, names_in}
use Rattle.property_aliases.specs.Sources.{add_name, missing_rows, unnumbered, value_names, value_rows}
use Rattle.property_aliases.proofs.file_values.with_rows.Given as goal

-- the names so far, and those of the rows that are left, are all; the rows above have the numbers of their values
abbrev pub invariant-rows : goal.invariant-rows
invariant-rows l = record {
  names : fold add_name (names_in l.names) (value_names (unnumbered l.left)) ≡ fold add_name (names_in l.initial.names) (value_names (unnumbered l.initial.left));
  rows : (above : List ValueRow) × (AreNumbered (names_in l.names) l.numbered.items above) × (above ++ value_rows (unnumbered l.left) ≡ value_rows (unnumbered l.initial.left));
  missing : (above : List ValueRow) × (AreNumbered (names_in l.names) l.missing.items above) × (above ++ missing_rows (unnumbered l.left) ≡ missing_rows (unnumbered l.initial.left));
}

abbrev pub decreases-rows : goal.decreases-rows
decreases-rows l = length l.left
