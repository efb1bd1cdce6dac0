use Rattle.std.proofs.Common.{sym}
use Rattle.property_aliases.specs.Numbers.{names_in}
use Rattle.property_aliases.proofs.NumberedRows.{known}
use Rattle.property_aliases.proofs.file_values.number_trying_last.Goals as goal

pub returns-then-has_number-clause-names : goal.returns-then-has_number-clause-names
returns-then-has_number-clause-names c = sym (known (names_in c.args.names.now) c.args.last c.args.value.now (c.has_number.ensures c.if-has_number.true))
