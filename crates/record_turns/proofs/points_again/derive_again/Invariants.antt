use Rattle.std.proofs.Common.{◌+◌, ◌≤◌, take}
use Rattle.range_table.specs.Values.{SameValues}
use Rattle.record_table.specs.Records.{record_next, record_now}
use Rattle.dependency_map.specs.Maps.{asked_at}
use Rattle.record_turns.specs.Again.{AsksAnew, IsAgain}
use Rattle.record_turns.proofs.points_again.derive_again.Given as goal

-- the points so far are derived, and their records and what they ask are prepared
abbrev pub invariant-points : goal.invariant-points
invariant-points g l = record {
  again : IsAgain (record_now l.initial.records) (g.W.FactView.facts_of l.view) (take l.c-index l.points) l.changed (record_next l.records);
  asks : AsksAnew (g.W.FactView.facts_of l.view) (take l.c-index l.points) (asked_at g.S.Store.next l.initial.map) (asked_at g.S.Store.next l.map);
  kept : SameValues (record_now l.records) (record_now l.initial.records);
  now : SameValues (asked_at g.S.Store.now l.map) (asked_at g.S.Store.now l.initial.map);
  steps : l.steps ≤ l.initial.steps + l.c-index;
}
