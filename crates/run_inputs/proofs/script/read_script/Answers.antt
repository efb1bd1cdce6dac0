use Rattle.std.proofs.Common.{subst, IfOk, All}
use Rattle.script_lines.specs.Groups.{IsWellFormed}
use Rattle.run_inputs.proofs.script.read_script.Goals as goal

pub returns-in-Ok-commands-clause-commands : goal.returns-in-Ok-commands-clause-commands
returns-in-Ok-commands-clause-commands c = subst (λ result. IfOk result (All IsWellFormed)) c.in-Ok-commands.ensures (c.groups_are_well_formed.ensures 1 _)
