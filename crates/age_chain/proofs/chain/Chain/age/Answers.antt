use Rattle.std.proofs.Common.{arith}
use Rattle.range_table.specs.RunTable.{values_now}
use Rattle.age_chain.proofs.ChainLemmas.{number_aged}
use Rattle.age_chain.proofs.chain.Chain.age.Goals as goal

pub returns-in_default : goal.returns-in_default
returns-in_default c = rw (← c.self.view_is) (number_aged (values_now c.self.inside.ages) c.args.c c.get.result (omega (arith, c.number-number.ensures.value, c.number-number.ensures.bound)) c.get.ensures (λ e. omega (arith, c.in_default, e)))
