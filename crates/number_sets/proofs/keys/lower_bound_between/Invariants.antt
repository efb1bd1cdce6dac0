use Rattle.std.proofs.Common.{◌-◌}
use Rattle.number_sets.specs.Keys.{IsBetween}
use Rattle.number_sets.proofs.keys.lower_bound_between.Given as goal

-- the place lies between the two
abbrev pub invariant-halves : goal.invariant-halves
invariant-halves l = IsBetween l.sorted l.start l.low l.high

abbrev pub decreases-halves : goal.decreases-halves
decreases-halves l = l.high - l.low
