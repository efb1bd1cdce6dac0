use Rattle.std.proofs.Common.{sym, ◌∙◌}
use Rattle.fact_tables.specs.FactTables.{tables_facts}
use Rattle.dependency_map.specs.Maps.{asked_at}
use Rattle.point_store.specs.SlotStore.{values}
use Rattle.paged_table.specs.Paged.{values_now}
use Rattle.record_table.specs.Records.{record_now}
use Rattle.edit_session.proofs.DerivationLemmas.{moved}
use Rattle.edit_session.proofs.derivation.Derivation.unboxed_copy.Goals as goal

pub returns-clause-now : goal.returns-clause-now
returns-clause-now c F is =
    moved F (tables_facts values_now c.args.self.now.tables) (tables_facts values_now c.in_ok-tables.tables) (record_now c.args.self.now.records) (record_now c.in_ok-records.records)
    c.args.self.now.questions.mentions c.new.result.mentions (asked_at (values values_now) c.args.self.now.questions.map) (asked_at (values values_now) c.new.result.map)
    c.in_ok-tables.ensures.now c.in_ok-records.ensures.now (λ kept. c.new.ensures.now F) is

pub returns-clause-still : goal.returns-clause-still
returns-clause-still c is = record {
  tables = c.in_ok-tables.ensures.next ∙ is.tables ∙ sym c.in_ok-tables.ensures.now;
  records = λ point lt. c.in_ok-records.ensures.next point lt ∙ is.records point lt ∙ sym (c.in_ok-records.ensures.now point lt);
  asked = c.new.ensures.still;
}
