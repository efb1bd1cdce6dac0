use Rattle.std.proofs.Common.{sym, ◌∙◌}
use Rattle.fact_tests.proofs.next_facts.steps.Goals as goal

pub prepare-requires-2 : goal.prepare-requires-2
prepare-requires-2 c = c.discard.ensures.discarded ∙ sym c.discard.ensures.now
