use Rattle.std.proofs.Common.{◌≡◌, ◌-◌, ◌++◌}
use Rattle.number_sets.specs.Keys.{has}
use Rattle.dependency_map.specs.Askers.{points_from}
use Rattle.dependency_map.proofs.collecting.points_of_numbers.Given as goal

-- the code points that were put, and those from there on, are all
abbrev pub invariant-points : goal.invariant-points
invariant-points l = l.points ++ points_from (has l.numbers) l.from ≡ points_from (has l.numbers) 0

abbrev pub decreases-points : goal.decreases-points
decreases-points l = 1114112 - l.from
