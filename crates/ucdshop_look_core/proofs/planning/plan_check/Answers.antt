use Rattle.std.proofs.Common.{ap}
use Rattle.ucdshop_jobs.specs.Judging.{inputs_of}
use Rattle.ucdshop_look_core.specs.Checks.{check_ending}
use Rattle.ucdshop_look_core.specs.Run.{finished}
use Rattle.ucdshop_look_core.proofs.planning.plan_check.Goals as goal

pub returns-in_ok-check_plan-in-Ok : goal.returns-in_ok-check_plan-in-Ok
returns-in_ok-check_plan-in-Ok g c = (
  check_ending (inputs_of c.in-Ok.inputs),
  ap (finished check_ending) c.in-Ok.ensures.inputs,
  c.in_ok-check_plan-in-Ok.ensures,
)
