use Rattle.std.proofs.Common.{subst, IfOk, option_map}
use Rattle.ucdshop_jobs.specs.JobWords.{job_of}
use Rattle.run_endings.specs.Planning.{HasPlan}
use Rattle.run_endings.specs.Endings.{Ending}
use Rattle.ucdshop_jobs.specs.Session.{started}
use Rattle.ucdshop_jobs.specs.CarryingLemmas.{session_counts_none}
use Rattle.ucdshop_core.proofs.PlanningLemmas.{ending_reached}
use Rattle.ucdshop_core.proofs.planning.plan_borrowed.Goals as goal

pub returns-clause-plan : goal.returns-clause-plan
returns-clause-plan g c =
    subst (λ (ending : Ending). IfOk c.plan_of.result (HasPlan ending))
    (ending_reached (job_of c.args.job) c.in_ok-rows.rows _ (option_map (λ before. before.current) c.args.earlier.now) _ _ _
    c.in_ok-rows.ensures c.in_ok-carried.ensures.session c.in_ok-breaks.ensures)
    c.plan_of.ensures

pub returns-in_err-rows-clause-counts : goal.returns-in_err-rows-clause-counts
returns-in_err-rows-clause-counts g c = session_counts_none (started c.args.bench.now.current) c.args.commands.now c.args.steps.now
