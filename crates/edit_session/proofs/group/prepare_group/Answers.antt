use Rattle.edit_session.specs.CountProofs.{counts_none}
use Rattle.edit_session.specs.Groups.{after_ops, files_facts}
use Rattle.edit_session.proofs.group.prepare_group.Goals as goal

-- an operation that is refused, or for which memory ran out, has counted nothing
pub returns-in_err-prepare_rows-clause-steps : goal.returns-in_err-prepare_rows-clause-steps
returns-in_err-prepare_rows-clause-steps g c = counts_none (after_ops c.args.release.now.current 0 c.args.group.now) (files_facts c.args.release.now.current) c.args.steps.now
