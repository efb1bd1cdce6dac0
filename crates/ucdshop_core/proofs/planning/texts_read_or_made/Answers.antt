use Rattle.ucdshop_jobs.specs.JobWords.{job_of}
use Rattle.ucdshop_core.proofs.PlanningLemmas.{reading_decides}
use Rattle.ucdshop_jobs.specs.VerdictLemmas.{made_decides}
use Rattle.ucdshop_core.proofs.planning.texts_read_or_made.Goals as goal

pub returns-in_ok-given_of_made_release-in-Some-clause-verdict : goal.returns-in_ok-given_of_made_release-in-Some-clause-verdict
returns-in_ok-given_of_made_release-in-Some-clause-verdict g c =
    made_decides g.S.Shelf.tells (g.S.Shelf.holds c.args.shelf.now) (job_of c.args.job) c.in-Some.number c.in_ok-given_of_made_release-in-Some.field-0 c.in-Some.is c.in_ok-given_of_made_release-in-Some.ensures.held

pub returns-in-None-clause-verdict : goal.returns-in-None-clause-verdict
returns-in-None-clause-verdict g c =
    reading_decides g.S.Shelf.tells (g.S.Shelf.holds c.args.shelf.now) (job_of c.args.job) c.read_texts.result c.in-None.is c.read_texts.ensures.read
