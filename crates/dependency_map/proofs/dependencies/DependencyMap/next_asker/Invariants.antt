use Rattle.std.proofs.Common.{◌-◌, ◌≤◌}
use Rattle.dependency_map.specs.Askers.{asks}
use Rattle.dependency_map.specs.Index.{NoneFrom}
use Rattle.dependency_map.specs.Maps.{asked_at}
use Rattle.dependency_map.proofs.dependencies.DependencyMap.next_asker.Given as goal

-- none that was passed asks the question
abbrev pub invariant-askers : goal.invariant-askers
invariant-askers g l = record {
  low : l.from ≤ l.start;
  none : NoneFrom (asks (asked_at g.S.Store.now l.self) l.query) l.from l.start;
}

abbrev pub decreases-askers : goal.decreases-askers
decreases-askers g l = 1114112 - l.start
