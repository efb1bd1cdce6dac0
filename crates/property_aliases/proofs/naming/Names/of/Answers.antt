use Rattle.property_aliases.specs.NumberMaps.{number_in}
use Rattle.property_aliases.proofs.RowsNumbers.{resolved}
use Rattle.property_aliases.proofs.naming.Names.of.Goals as goal

pub returns : goal.returns
returns c = resolved c.args.names.now c.args.rows.now (number_in c.in_ok-direct.direct) (number_in c.in_ok-rows.rows) c.in_ok-direct.ensures c.in_ok-rows.ensures
