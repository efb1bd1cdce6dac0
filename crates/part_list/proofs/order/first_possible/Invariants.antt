use Rattle.std.proofs.Common.{◌-◌, ◌≤◌, length}
use Rattle.part_list.specs.Orders.{NoneIn}
use Rattle.part_list.proofs.order.first_possible.Given as goal

-- no entry so far passes
abbrev pub invariant-halves : goal.invariant-halves
invariant-halves g l = record {
  ordered : l.from ≤ l.to;
  within : l.to ≤ length l.entries;
  none : NoneIn (g.S.Seek.passing l.seek) l.entries 0 l.from;
}

abbrev pub decreases-halves : goal.decreases-halves
decreases-halves g l = l.to - l.from
