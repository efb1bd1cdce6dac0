use Rattle.script_lines.proofs.ScriptsRead.{scripts_are_read}
use Rattle.script_lines.proofs.laws.scripts_are_read.Goals as goal

pub returns : goal.returns
returns c = scripts_are_read c.rows_are_read.ensures c.keys_are_read.ensures
