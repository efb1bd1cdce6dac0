use Rattle.std.proofs.Common.{refl, ap, sym, ◌∙◌}
use Rattle.run_endings.specs.PreparedProofs.{prepares}
use Rattle.ucdshop_look_core.specs.Commands.{job_of}
use Rattle.ucdshop_look_core.specs.Jobs.{form}
use Rattle.ucdshop_look_core.specs.Run.{ucdshop_look}
use Rattle.ucdshop_look_core.proofs.program.plan_words.Goals as goal

pub returns-in-Some-clause-plans : goal.returns-in-Some-clause-plans
returns-in-Some-clause-plans g c = (
  job_of c.in-Some.command,
  ap form (sym c.as_slice.ensures) ∙ c.in-Some.ensures,
  prepares ucdshop_look (job_of c.in-Some.command) c.prepare.result _ c.prepare.ensures.planned c.prepare.ensures.refused c.prepare.ensures.unread c.prepare.ensures.only_read,
)

pub returns-in-None-clause-plans : goal.returns-in-None-clause-plans
returns-in-None-clause-plans g c =
    (ap form (sym c.as_slice.ensures) ∙ c.in-None.ensures, record { unchanged = λ tells path. refl; reads = refl; writes = refl; failed = λ tells. refl })
