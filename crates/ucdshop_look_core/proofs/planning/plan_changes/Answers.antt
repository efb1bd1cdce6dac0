use Rattle.std.proofs.Common.{ap}
use Rattle.ucdshop_jobs.specs.Judging.{inputs_of}
use Rattle.ucdshop_look_core.specs.Changes.{changes_ending}
use Rattle.ucdshop_look_core.specs.Run.{finished}
use Rattle.ucdshop_look_core.proofs.planning.plan_changes.Goals as goal

pub returns-in_ok-changes_plan-in-Ok : goal.returns-in_ok-changes_plan-in-Ok
returns-in_ok-changes_plan-in-Ok g c = (
  changes_ending (inputs_of c.in-Ok.inputs),
  ap (finished changes_ending) c.in-Ok.ensures.inputs,
  c.in_ok-changes_plan-in-Ok.ensures,
)
