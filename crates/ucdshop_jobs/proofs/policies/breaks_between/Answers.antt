use Rattle.ucdshop_jobs.proofs.PolicyLemmas.{report_now}
use Rattle.ucdshop_jobs.proofs.policies.breaks_between.Goals as goal

pub returns : goal.returns
returns c =
    report_now c.report.result c.args.before.now c.args.bench.now c.release-old.result.now c.release-new.result.now
    c.release-old.ensures.same c.release-old.ensures.still c.release-new.ensures.same c.release-new.ensures.still c.report.ensures
