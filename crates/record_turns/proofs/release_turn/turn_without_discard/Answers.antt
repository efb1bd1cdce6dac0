use Rattle.std.proofs.Common.{◌∙◌}
use Rattle.record_table.specs.Records.{record_next, record_now}
use Rattle.dependency_map.specs.Maps.{asked_at}
use Rattle.record_turns.proofs.TurnSteps.{counts, stops_turn, turned}
use Rattle.record_turns.proofs.release_turn.turn_without_discard.Goals as goal

pub returns-in-Ok-clause-turned : goal.returns-in-Ok-clause-turned
returns-in-Ok-clause-turned g c = λ F ready.
    turned F (g.W.FactView.facts_of c.args.view.now) (record_now c.args.records.now) (asked_at g.S.Store.now c.args.map.now) (asked_at g.S.Store.next c.args.map.now) c.args.queries.now c.as_slice.result.now ready (c.as_slice.ensures ∙ c.in_ok-points.ensures)
    c.in-Ok.changed (record_next c.derive_again.new.records) (asked_at g.S.Store.next c.derive_again.new.map) c.in-Ok.ensures.again c.in-Ok.ensures.asks

pub returns-in-Ok-clause-steps : goal.returns-in-Ok-clause-steps
returns-in-Ok-clause-steps g c = λ F ready.
    counts F (g.W.FactView.facts_of c.args.view.now) (record_now c.args.records.now) (asked_at g.S.Store.now c.args.map.now) (asked_at g.S.Store.next c.args.map.now) c.args.queries.now c.as_slice.result.now ready (c.as_slice.ensures ∙ c.in_ok-points.ensures)
    c.args.steps.now c.derive_again.new.steps c.derive_again.ensures.steps

pub returns-clause-stop : goal.returns-clause-stop
returns-clause-stop g c = λ F ready.
    stops_turn F (g.W.FactView.facts_of c.args.view.now) (record_now c.args.records.now) (asked_at g.S.Store.now c.args.map.now) (asked_at g.S.Store.next c.args.map.now) c.args.queries.now c.as_slice.result.now ready (c.as_slice.ensures ∙ c.in_ok-points.ensures)
    c.in-Err.stop c.in-Err.ensures.stop

pub returns-clause-steps : goal.returns-clause-steps
returns-clause-steps g c = λ F ready.
    counts F (g.W.FactView.facts_of c.args.view.now) (record_now c.args.records.now) (asked_at g.S.Store.now c.args.map.now) (asked_at g.S.Store.next c.args.map.now) c.args.queries.now c.as_slice.result.now ready (c.as_slice.ensures ∙ c.in_ok-points.ensures)
    c.args.steps.now c.derive_again.new.steps c.derive_again.ensures.steps
