use Rattle.std.proofs.Common.{ap}
use Rattle.ucdshop_more_core.proofs.DeskPlanLemmas.{plans_session}
use Rattle.ucdshop_more_core.specs.Sessions.{session_of}
use Rattle.ucdshop_more_core.specs.Turns.{request_turns}
use Rattle.ucdshop_more_core.proofs.desk_plan.desk_plan.Goals as goal

pub returns : goal.returns
returns g c =
    plans_session c.args.output.now (session_of c.args.sitting) (request_turns c.as_slice.result.now) c.new-desk.result (ap request_turns c.as_slice.ensures) c.new-desk.ensures.state c.plan_of_requests.result c.plan_of_requests.ensures
