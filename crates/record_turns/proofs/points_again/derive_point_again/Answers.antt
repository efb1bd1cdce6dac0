use Rattle.dependency_map.specs.Maps.{asked_at}
use Rattle.record_table.specs.Records.{record_next, record_now}
use Rattle.record_turns.proofs.AgainSteps.{asked_anew, has_over, put_over}
use Rattle.record_turns.proofs.points_again.derive_point_again.Goals as goal

pub returns-in_ok-prepare_derived_point-in-Ok-clause-has : goal.returns-in_ok-prepare_derived_point-in-Ok-clause-has
returns-in_ok-prepare_derived_point-in-Ok-clause-has g c = has_over (g.W.FactView.facts_of c.args.view.now) c.args.c c.in-Ok.found c.in-Ok.ensures.found

pub returns-in_ok-prepare_derived_point-in-Ok-clause-put : goal.returns-in_ok-prepare_derived_point-in-Ok-clause-put
returns-in_ok-prepare_derived_point-in-Ok-clause-put g c =
    put_over (g.W.FactView.facts_of c.args.view.now) (record_now c.args.records.now c.args.c) c.args.c c.in-Ok.found c.args.changed.now c.prepare_derived_point.new.changed (record_next c.args.records.now) (record_next c.prepare_derived_point.new.records) c.in-Ok.ensures.found c.in_ok-prepare_derived_point-in-Ok.ensures.put

pub returns-in_ok-prepare_derived_point-in-Ok-clause-asked : goal.returns-in_ok-prepare_derived_point-in-Ok-clause-asked
returns-in_ok-prepare_derived_point-in-Ok-clause-asked g c =
    asked_anew (g.W.FactView.facts_of c.args.view.now) c.args.c c.in-Ok.found (asked_at g.S.Store.next c.args.map.now) (asked_at g.S.Store.next c.prepare_derived_point.new.map) c.in-Ok.ensures.found c.in_ok-prepare_derived_point-in-Ok.ensures.asked
