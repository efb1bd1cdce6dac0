use Rattle.std.proofs.Common.{Some, refl, ap, sym, ◌∙◌}
use Rattle.run_endings.specs.PreparedProofs.{prepares}
use Rattle.ucdshop_jobs.specs.JobWords.{job_of}
use Rattle.ucdshop_jobs.specs.Jobs.{form}
use Rattle.ucdshop_jobs.specs.Run.{ucdshop}
use Rattle.ucdshop_jobs.specs.CountingLemmas.{form_counts, form_stops, formless_counts}
use Rattle.ucdshop_core.proofs.program.plan_words.Goals as goal

pub returns-in-Some-clause-plans : goal.returns-in-Some-clause-plans
returns-in-Some-clause-plans g c = (
  job_of c.in-Some.job,
  ap form (sym c.as_slice.ensures) ∙ c.in-Some.ensures.form,
  prepares ucdshop (job_of c.in-Some.job) c.prepare.result _ c.prepare.ensures.planned c.prepare.ensures.refused c.prepare.ensures.unread c.prepare.ensures.only_read,
)

pub returns-in-Some-clause-counts : goal.returns-in-Some-clause-counts
returns-in-Some-clause-counts g c =
    form_counts g.S.Shelf.tells (g.S.Shelf.holds c.args.shelf.now) (form c.args.words.now) (Some (job_of c.in-Some.job)) c.args.steps.now c.prepare.new.steps (ap form (sym c.as_slice.ensures) ∙ c.in-Some.ensures.form)
    c.prepare.ensures.counts

pub returns-in-None-clause-plans : goal.returns-in-None-clause-plans
returns-in-None-clause-plans g c =
    (ap form (sym c.as_slice.ensures) ∙ c.in-None.ensures.form, record { unchanged = λ tells path. refl; reads = refl; writes = refl; failed = λ tells. refl })

pub returns-in-None-clause-counts : goal.returns-in-None-clause-counts
returns-in-None-clause-counts g c =
    formless_counts g.S.Shelf.tells (g.S.Shelf.holds c.args.shelf.now) (form c.args.words.now) c.args.steps.now (ap form (sym c.as_slice.ensures) ∙ c.in-None.ensures.form)

pub returns-in-Some-clause-stops : goal.returns-in-Some-clause-stops
returns-in-Some-clause-stops g c =
    form_stops c.prepare.result (form c.args.words.now) (job_of c.in-Some.job) c.args.steps.now c.prepare.new.steps (ap form (sym c.as_slice.ensures) ∙ c.in-Some.ensures.form) c.prepare.ensures.stops
