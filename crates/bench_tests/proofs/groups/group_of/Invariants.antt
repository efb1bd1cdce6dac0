use Rattle.std.specs.List.{All}
use Rattle.release_rows.specs.Operations.{IsOp}
use Rattle.bench_tests.proofs.groups.group_of.Given as goal

abbrev pub invariant-edits : goal.invariant-edits
invariant-edits l = All IsOp l.ops
