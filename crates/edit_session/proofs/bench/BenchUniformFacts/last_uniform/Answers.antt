use Rattle.std.proofs.Common.{refl, arith}
use Rattle.edit_session.proofs.bench.BenchUniformFacts.last_uniform.Goals as goal

pub returns-in-Some-clause-plain : goal.returns-in-Some-clause-plain
returns-in-Some-clause-plain c = λ lt. rw (← c.self.view_is, ← c.self.invariant.now.same, ← c.deref.ensures) (c.in-Some.ensures.plain.0 refl)

pub returns-in-Some-clause-uniform : goal.returns-in-Some-clause-uniform
returns-in-Some-clause-uniform c = λ d from to. rw (← c.self.view_is, ← c.self.invariant.now.same, ← c.deref.ensures) (c.in-Some.ensures.stretch.each d (omega arith) to)
