use Rattle.std.proofs.Common.{refl, ap, sym, ◌∙◌}
use Rattle.ending_tests.specs.Checker.{check_of, checker, form}
use Rattle.run_endings.specs.PreparedProofs.{prepares}
use Rattle.ending_tests.proofs.checker.plan_words.Goals as goal

pub returns-in-Some-clause-plans : goal.returns-in-Some-clause-plans
returns-in-Some-clause-plans g c = (
  check_of c.in-Some.named.0.now c.in-Some.named.1.now,
  ap form (sym c.as_slice.ensures) ∙ sym c.in-Some.ensures,
  prepares checker (check_of c.in-Some.named.0.now c.in-Some.named.1.now) c.prepare.result _ c.prepare.ensures.planned c.prepare.ensures.refused c.prepare.ensures.unread c.prepare.ensures.only_read,
)

pub returns-in-None-clause-plans : goal.returns-in-None-clause-plans
returns-in-None-clause-plans g c =
    (ap form (sym c.as_slice.ensures) ∙ sym c.in-None.ensures, record { unchanged = λ tells path. refl; reads = refl; writes = refl; failed = λ tells. refl })
