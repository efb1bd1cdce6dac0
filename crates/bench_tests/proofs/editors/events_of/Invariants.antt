use Rattle.std.specs.List.{All}
use Rattle.bench_editors.specs.Desks.{IsEvent}
use Rattle.bench_tests.proofs.editors.events_of.Given as goal

abbrev pub invariant-acts : goal.invariant-acts
invariant-acts l = All IsEvent l.events.items
