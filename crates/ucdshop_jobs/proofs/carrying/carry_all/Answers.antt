use Rattle.ucdshop_jobs.specs.CarryingLemmas.{session_counts_none}
use Rattle.ucdshop_jobs.proofs.carrying.carry_all.Goals as goal

pub returns-clause-counts : goal.returns-clause-counts
returns-clause-counts g c = c.commands.invariant.counts c.commands.steps (session_counts_none _ c.commands.rest.now c.commands.steps)
