use Rattle.run_inputs.specs.Held.{StayOutside}
use Rattle.run_inputs.proofs.beside.drop_sources.Given as goal

-- what is held elsewhere stays
abbrev pub invariant-texts : goal.invariant-texts
invariant-texts l = StayOutside l.first l.fn.held.items l.held.items
