use Rattle.std.proofs.Common.{◌≡◌, ◌<◌, ℕ, take}
use Rattle.number_sets.specs.Keys.{is_in}
use Rattle.dependency_map.specs.Askers.{asks_any}
use Rattle.dependency_map.specs.Maps.{asked_at}
use Rattle.dependency_map.proofs.dependencies.DependencyMap.collect.Given as goal

-- the code points that ask one of the questions that were passed are put, and no others
abbrev pub invariant-queries : goal.invariant-queries
invariant-queries g l = (k : ℕ) → k < 1114112 → is_in l.numbers.items k ≡ asks_any (asked_at g.S.Store.now l.self) (take l.query-index l.query-items) k
