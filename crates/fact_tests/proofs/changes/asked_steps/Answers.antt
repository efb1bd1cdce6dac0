use Rattle.std.proofs.Common.{sym, ◌∙◌}
use Rattle.fact_tests.proofs.changes.asked_steps.Goals as goal

pub prepare-requires-2 : goal.prepare-requires-2
prepare-requires-2 g c = c.commit.ensures.next ∙ sym c.commit.ensures.committed
