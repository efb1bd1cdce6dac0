use Rattle.std.proofs.Common.{arith}
use Rattle.stability_policies.proofs.UniformBreaks.{alone_alike, uniform_alike}
use Rattle.stability_policies.proofs.sieving.last_alike.Goals as goal

pub returns-then-number-clause-alike : goal.returns-then-number-clause-alike
returns-then-number-clause-alike g c =
    uniform_alike (g.O.FactView.facts_of c.args.old.now) (g.N.FactView.facts_of c.args.new.now) c.args.c c.last_uniform-before.result c.last_uniform-after.result c.last_uniform-before.result
    (omega arith) (omega (arith, c.if-number.true, c.number.ensures.value, c.number-2.ensures.value))
    c.last_uniform-before.ensures.plain c.last_uniform-before.ensures.uniform c.last_uniform-after.ensures.plain c.last_uniform-after.ensures.uniform

pub returns-else-number-clause-alike : goal.returns-else-number-clause-alike
returns-else-number-clause-alike g c =
    uniform_alike (g.O.FactView.facts_of c.args.old.now) (g.N.FactView.facts_of c.args.new.now) c.args.c c.last_uniform-before.result c.last_uniform-after.result c.last_uniform-after.result
    (omega (arith, c.if-number.false, c.number.ensures.value, c.number-2.ensures.value)) (omega arith)
    c.last_uniform-before.ensures.plain c.last_uniform-before.ensures.uniform c.last_uniform-after.ensures.plain c.last_uniform-after.ensures.uniform

pub returns-then-not-matches-clause-alike : goal.returns-then-not-matches-clause-alike
returns-then-not-matches-clause-alike g c = alone_alike (g.O.FactView.facts_of c.args.old.now) (g.N.FactView.facts_of c.args.new.now) c.args.c
