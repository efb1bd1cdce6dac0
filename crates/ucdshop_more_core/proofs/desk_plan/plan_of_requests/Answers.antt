use Rattle.ucdshop_more_core.proofs.DeskPlanLemmas.{plans_turns}
use Rattle.ucdshop_more_core.specs.Turns.{request_turns}
use Rattle.ucdshop_more_core.proofs.desk_plan.plan_of_requests.Goals as goal

pub returns : goal.returns
returns g c =
    plans_turns c.args.output.now (request_turns c.args.requests.now) c.in_ok-log.log c.args.desk.now c.hold_session.new.desk c.bench.result.now c.bench.ensures c.in_ok-log.ensures c.plan_of_log.result c.plan_of_log.ensures
