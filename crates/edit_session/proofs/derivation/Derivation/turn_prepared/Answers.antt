use Rattle.std.proofs.Common.{◌∙◌, ℕ, refl}
use Rattle.fact_tables.specs.FactTables.{tables_facts, tables_next}
use Rattle.dependency_map.specs.Maps.{asked_at}
use Rattle.point_store.specs.SlotStore.{values}
use Rattle.paged_table.specs.Paged.{values_now, values_next}
use Rattle.record_table.specs.Records.{record_next, record_now}
use Rattle.ucd_facts.specs.Facts.{Facts}
use Rattle.ucd_points.specs.declared.list.ListOf.{ListOf}
use Rattle.ucd_points.specs.declared.point.Point.{Point}
use Rattle.edit_session.specs.CountProofs.{none_counted}
use Rattle.edit_session.specs.Groups.{files_facts}
use Rattle.edit_session.proofs.DerivationLemmas.{answers_broken, answers_valid, counts_over, kept_now, ready, turned, turned_points, valid_over}
use Rattle.edit_session.proofs.derivation.Derivation.turn_prepared.Goals as goal

pub returns-in_err-list_possible_askers-clause-now : goal.returns-in_err-list_possible_askers-clause-now
returns-in_err-list_possible_askers-clause-now g c = λ F is.
    let R = record_now c.args.self.now.records in
    let B = asked_at (values values_now) c.list_possible_askers.new.self.map in
    kept_now F (tables_facts values_now c.args.self.now.tables) R R c.args.self.now.questions.mentions c.list_possible_askers.new.self.mentions (asked_at (values values_now) c.args.self.now.questions.map) B B (λ k lt. refl) c.list_possible_askers.ensures.kept (λ k lt. refl) is

pub returns-in_err-list_possible_askers-clause-steps : goal.returns-in_err-list_possible_askers-clause-steps
returns-in_err-list_possible_askers-clause-steps g c = none_counted (tables_facts values_now c.args.self.now.tables) (tables_next values_now c.args.self.now.tables) c.args.steps.now

pub returns-in-Ok-clause-answer : goal.returns-in-Ok-clause-answer
returns-in-Ok-clause-answer g c = λ files is.
    let d = c.args.self.now in
    let view : ℕ → Facts = tables_next values_now c.next-view.result.tables.now in
    let rdy = ready d c.list_possible_askers.new.self view c.args.queries.now c.list_possible_askers.ensures.kept c.in_ok-list_possible_askers.ensures.walked c.next-view.ensures c.requires.now c.list_possible_askers.ensures.still c.requires.tells in
    let over = turned d c.list_possible_askers.new.self view c.args.queries.now c.list_possible_askers.ensures.kept c.in_ok-list_possible_askers.ensures.walked c.next-view.ensures (record_next c.turn.new.records) (asked_at (values values_next) c.turn.new.map) c.in-Ok.changed (c.in-Ok.ensures.turned (tables_facts values_now d.tables) rdy) in
    answers_valid c.in-Ok.changed files (valid_over (tables_next values_now d.tables) (files_facts files) is over.valid)

pub returns-in-Ok-clause-now : goal.returns-in-Ok-clause-now
returns-in-Ok-clause-now g c = λ F is.
    kept_now F (tables_facts values_now c.args.self.now.tables) (record_now c.args.self.now.records) (record_now c.turn.new.records) c.args.self.now.questions.mentions c.list_possible_askers.new.self.mentions (asked_at (values values_now) c.args.self.now.questions.map)
    (asked_at (values values_now) c.list_possible_askers.new.self.map) (asked_at (values values_now) c.turn.new.map) c.turn.ensures.now c.list_possible_askers.ensures.kept c.turn.ensures.asked is

pub returns-in-Ok-clause-next : goal.returns-in-Ok-clause-next
returns-in-Ok-clause-next g c =
    let d = c.args.self.now in
    let view : ℕ → Facts = tables_next values_now c.next-view.result.tables.now in
    let rdy = ready d c.list_possible_askers.new.self view c.args.queries.now c.list_possible_askers.ensures.kept c.in_ok-list_possible_askers.ensures.walked c.next-view.ensures c.requires.now c.list_possible_askers.ensures.still c.requires.tells in
    turned d c.list_possible_askers.new.self view c.args.queries.now c.list_possible_askers.ensures.kept c.in_ok-list_possible_askers.ensures.walked c.next-view.ensures (record_next c.turn.new.records) (asked_at (values values_next) c.turn.new.map) c.in-Ok.changed (c.in-Ok.ensures.turned (tables_facts values_now d.tables) rdy)

pub returns-in-Ok-clause-changed : goal.returns-in-Ok-clause-changed
returns-in-Ok-clause-changed g c =
    let d = c.args.self.now in
    let view : ℕ → Facts = tables_next values_now c.next-view.result.tables.now in
    let rdy = ready d c.list_possible_askers.new.self view c.args.queries.now c.list_possible_askers.ensures.kept c.in_ok-list_possible_askers.ensures.walked c.next-view.ensures c.requires.now c.list_possible_askers.ensures.still c.requires.tells in
    turned_points d c.list_possible_askers.new.self view c.args.queries.now c.list_possible_askers.ensures.kept c.in_ok-list_possible_askers.ensures.walked c.next-view.ensures (record_next c.turn.new.records) (asked_at (values values_next) c.turn.new.map) c.in-Ok.changed (c.in-Ok.ensures.turned (tables_facts values_now d.tables) rdy)

pub returns-in-Ok-clause-steps : goal.returns-in-Ok-clause-steps
returns-in-Ok-clause-steps g c =
    let d = c.args.self.now in
    let view : ℕ → Facts = tables_next values_now c.next-view.result.tables.now in
    let rdy = ready d c.list_possible_askers.new.self view c.args.queries.now c.list_possible_askers.ensures.kept c.in_ok-list_possible_askers.ensures.walked c.next-view.ensures c.requires.now c.list_possible_askers.ensures.still c.requires.tells in
    counts_over (tables_facts values_now d.tables) (tables_next values_now d.tables) view c.args.steps.now c.turn.new.steps c.next-view.ensures (c.turn.ensures.steps (tables_facts values_now d.tables) rdy)

pub returns-in-Err-clause-answer : goal.returns-in-Err-clause-answer
returns-in-Err-clause-answer g c = λ files is.
    let d = c.args.self.now in
    let view : ℕ → Facts = tables_next values_now c.next-view.result.tables.now in
    let rdy = ready d c.list_possible_askers.new.self view c.args.queries.now c.list_possible_askers.ensures.kept c.in_ok-list_possible_askers.ensures.walked c.next-view.ensures c.requires.now c.list_possible_askers.ensures.still c.requires.tells in
    answers_broken (ListOf Point) view c.in-Err.stop c.from.result files (c.next-view.ensures ∙ is) c.from.ensures (c.in-Err.ensures.stop (tables_facts values_now d.tables) rdy)

pub returns-in-Err-clause-now : goal.returns-in-Err-clause-now
returns-in-Err-clause-now g c = λ F is.
    kept_now F (tables_facts values_now c.args.self.now.tables) (record_now c.args.self.now.records) (record_now c.turn.new.records) c.args.self.now.questions.mentions c.list_possible_askers.new.self.mentions (asked_at (values values_now) c.args.self.now.questions.map)
    (asked_at (values values_now) c.list_possible_askers.new.self.map) (asked_at (values values_now) c.turn.new.map) c.turn.ensures.now c.list_possible_askers.ensures.kept c.turn.ensures.asked is

pub returns-in-Err-clause-steps : goal.returns-in-Err-clause-steps
returns-in-Err-clause-steps g c =
    let d = c.args.self.now in
    let view : ℕ → Facts = tables_next values_now c.next-view.result.tables.now in
    let rdy = ready d c.list_possible_askers.new.self view c.args.queries.now c.list_possible_askers.ensures.kept c.in_ok-list_possible_askers.ensures.walked c.next-view.ensures c.requires.now c.list_possible_askers.ensures.still c.requires.tells in
    counts_over (tables_facts values_now d.tables) (tables_next values_now d.tables) view c.args.steps.now c.turn.new.steps c.next-view.ensures (c.turn.ensures.steps (tables_facts values_now d.tables) rdy)
