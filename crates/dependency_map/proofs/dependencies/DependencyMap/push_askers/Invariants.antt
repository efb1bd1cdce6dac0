use Rattle.std.proofs.Common.{◌≡◌, ◌-◌, ◌<◌, ◌≤◌, ◌||◌, ℕ}
use Rattle.number_sets.specs.Keys.{is_in}
use Rattle.dependency_map.specs.Askers.{asks}
use Rattle.dependency_map.specs.Maps.{asked_at}
use Rattle.dependency_map.proofs.dependencies.DependencyMap.push_askers.Given as goal

-- the code points below `from` that ask the question are put, and none from there on
abbrev pub invariant-askers : goal.invariant-askers
invariant-askers g l = record {
  below : (k : ℕ) → k < l.from → is_in l.numbers.items k ≡ (is_in l.initial.numbers.items k || asks (asked_at g.S.Store.now l.self) l.query k);
  above : (k : ℕ) → l.from ≤ k → is_in l.numbers.items k ≡ is_in l.initial.numbers.items k;
}

abbrev pub decreases-askers : goal.decreases-askers
decreases-askers g l = 1114112 - l.from
