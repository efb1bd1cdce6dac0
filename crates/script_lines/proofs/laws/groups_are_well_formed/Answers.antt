use Rattle.script_lines.proofs.Ready.{groups_are_ready}
use Rattle.script_lines.proofs.laws.groups_are_well_formed.Goals as goal

pub returns : goal.returns
returns c = groups_are_ready c.rows_are_read.ensures c.possible_rows_are_readable.ensures
