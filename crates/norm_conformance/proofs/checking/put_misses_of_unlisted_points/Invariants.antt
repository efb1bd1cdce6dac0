use Rattle.std.proofs.Common.{◌≡◌, ◌++◌}
use Rattle.std.specs.List.{flat_map, range_with_len}
use Rattle.number_sets.specs.Keys.{has}
use Rattle.norm_conformance.specs.Misses.{misses_at}
use Rattle.norm_conformance.proofs.checking.put_misses_of_unlisted_points.Given as goal

-- what is missed of the code points so far
abbrev pub invariant-points : goal.invariant-points
invariant-points g l = l.found ≡ l.initial.found ++ flat_map (misses_at (g.W.FactView.facts_of l.view) (has l.listed)) (range_with_len 0 l.number)
