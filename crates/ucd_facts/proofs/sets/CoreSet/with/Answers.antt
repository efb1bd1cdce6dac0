use Rattle.std.proofs.Common.{arith}
use Rattle.ucd_facts.proofs.sets.CoreSet.with.Goals as goal

pub invariant_of-result : goal.invariant_of-result
invariant_of-result c = c.with_bit.ensures.width 19 c.self.invariant (omega arith)
