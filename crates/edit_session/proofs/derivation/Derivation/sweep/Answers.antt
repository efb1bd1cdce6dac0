use Rattle.std.proofs.Common.{sym, ◌∙◌}
use Rattle.fact_tables.specs.FactTables.{tables_facts}
use Rattle.dependency_map.specs.Maps.{asked_at}
use Rattle.point_store.specs.SlotStore.{values}
use Rattle.paged_table.specs.Paged.{values_now}
use Rattle.record_table.specs.Records.{record_now}
use Rattle.edit_session.proofs.DerivationLemmas.{moved}
use Rattle.edit_session.proofs.derivation.Derivation.sweep.Goals as goal

pub returns-clause-now : goal.returns-clause-now
returns-clause-now c = λ F is.
    moved F (tables_facts values_now c.args.self.now.tables) (tables_facts values_now c.sweep.new.self) (record_now c.args.self.now.records) (record_now c.sweep-2.new.self)
    c.args.self.now.questions.mentions c.sweep-3.new.self.mentions (asked_at (values values_now) c.args.self.now.questions.map) (asked_at (values values_now) c.sweep-3.new.self.map)
    c.sweep.ensures.now c.sweep-2.ensures.now (c.sweep-3.ensures.now F) is

pub returns-clause-still : goal.returns-clause-still
returns-clause-still c = λ is. record {
  tables = c.sweep.ensures.next ∙ is.tables ∙ sym c.sweep.ensures.now;
  records = λ k lt. c.sweep-2.ensures.next k lt ∙ is.records k lt ∙ sym (c.sweep-2.ensures.now k lt);
  asked = c.sweep-3.ensures.still is.asked;
}
