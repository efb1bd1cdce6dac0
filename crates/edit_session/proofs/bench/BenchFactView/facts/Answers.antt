use Rattle.edit_session.proofs.bench.BenchFactView.facts.Goals as goal

pub returns : goal.returns
returns c = rw (← c.self.view_is, ← c.self.invariant.now.same, ← c.deref.ensures) c.facts.ensures
