use Rattle.edit_session.proofs.bench.BenchFactView.mapping.Goals as goal

pub returns : goal.returns
returns c = rw (← c.self.view_is, ← c.self.invariant.now.same, ← c.deref.ensures) c.mapping.ensures
