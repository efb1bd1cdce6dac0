use Rattle.std.proofs.Common.{ap}
use Rattle.ucdshop_look_core.specs.Answers.{ask_ending}
use Rattle.ucdshop_look_core.specs.Run.{finished}
use Rattle.ucdshop_look_core.proofs.planning.plan_ask.Goals as goal

pub returns-in_ok-answers_plan-in-Ok : goal.returns-in_ok-answers_plan-in-Ok
returns-in_ok-answers_plan-in-Ok g c = (
  ask_ending c.args.questions.now c.in-Ok.bench.current,
  ap (finished (ask_ending c.args.questions.now)) c.in-Ok.ensures.files,
  c.in_ok-answers_plan-in-Ok.ensures,
)
