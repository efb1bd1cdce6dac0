use Rattle.ucdshop_jobs.specs.JobWords.{job_of}
use Rattle.ucdshop_jobs.specs.Judging.{given_verdict}
use Rattle.ucdshop_jobs.specs.CountingLemmas.{stop_opens, verdict_opened}
use Rattle.ucdshop_core.proofs.PlanningLemmas.{stops_as}
use Rattle.ucdshop_core.proofs.planning.plan_given.Goals as goal

pub returns-clause-counts : goal.returns-clause-counts
returns-clause-counts g c = verdict_opened (job_of c.args.job) (given_verdict (job_of c.args.job) c.args.given) c.args.steps.now c.judge_inputs.new.steps c.judge_inputs.ensures.steps

pub returns-clause-plan : goal.returns-clause-plan
returns-clause-plan g c = stops_as (job_of c.args.job) (given_verdict (job_of c.args.job) c.args.given) c.in-Err.stop c.in-Err.ensures.inputs

pub returns-clause-stops : goal.returns-clause-stops
returns-clause-stops g c =
    stop_opens c.in-Err.stop (given_verdict (job_of c.args.job) c.args.given) (job_of c.args.job) c.args.steps.now c.judge_inputs.new.steps c.in-Err.ensures.inputs c.judge_inputs.ensures.steps
