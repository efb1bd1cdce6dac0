use Rattle.ucdshop_jobs.proofs.policies.breaks_since.Goals as goal

pub returns-in-Some : goal.returns-in-Some
returns-in-Some c = rw c.in-Some.is c.breaks_between.ensures
