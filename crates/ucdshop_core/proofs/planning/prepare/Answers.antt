use Rattle.std.proofs.lemmas.Result.{err_from_is_err_and}
use Rattle.ucdshop_jobs.specs.JobWords.{job_of}
use Rattle.ucdshop_jobs.specs.CountingLemmas.{unread_counts, unread_stops}
use Rattle.ucdshop_core.proofs.PlanningLemmas.{planned, refused}
use Rattle.ucdshop_core.proofs.planning.prepare.Goals as goal

pub returns-clause-planned : goal.returns-clause-planned
returns-clause-planned g c =
    planned g.S.Shelf.tells (g.S.Shelf.holds c.args.shelf.now) (job_of c.args.job) c.in_ok-given.given c.in_ok-given.ensures.verdict
    c.in_ok-plan.plan c.in_ok-plan.ensures.plan

pub returns-in_err-plan-clause-refused : goal.returns-in_err-plan-clause-refused
returns-in_err-plan-clause-refused g c =
    let p = err_from_is_err_and c.from_residual-in_err-plan.result c.from_residual-in_err-plan.ensures.1 in
    rw (p.1, p.2) (refused g.S.Shelf.tells (g.S.Shelf.holds c.args.shelf.now) (job_of c.args.job) c.in_ok-given.given c.in_ok-given.ensures.verdict
    _ c.in_err-plan.ensures.plan)

pub returns-in_err-given-clause-counts : goal.returns-in_err-given-clause-counts
returns-in_err-given-clause-counts g c = unread_counts g.S.Shelf.tells (g.S.Shelf.holds c.args.shelf.now) (job_of c.args.job) c.args.steps.now

pub returns-in_err-plan-clause-stops : goal.returns-in_err-plan-clause-stops
returns-in_err-plan-clause-stops g c =
    let p = err_from_is_err_and c.from_residual-in_err-plan.result c.from_residual-in_err-plan.ensures.1 in
    rw (p.1, p.2) c.in_err-plan.ensures.stops

pub returns-in_err-given-clause-stops : goal.returns-in_err-given-clause-stops
returns-in_err-given-clause-stops g c =
    let p = err_from_is_err_and c.from_residual.result c.from_residual.ensures.1 in
    rw (p.1, p.2) (unread_stops _ (job_of c.args.job) c.args.steps.now)
