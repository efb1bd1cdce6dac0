use Rattle.fact_tables.specs.FactTables.{tables_facts, tables_next}
use Rattle.dependency_map.specs.Maps.{asked_at}
use Rattle.point_store.specs.SlotStore.{values}
use Rattle.paged_table.specs.Paged.{values_now, values_next}
use Rattle.record_table.specs.Records.{record_next, record_now}
use Rattle.edit_session.proofs.DerivationLemmas.{moved}
use Rattle.edit_session.proofs.derivation.Derivation.commit.Goals as goal

pub returns-clause-committed : goal.returns-clause-committed
returns-clause-committed c = λ F is.
    moved F (tables_next values_now c.args.self.now.tables) (tables_facts values_now c.commit.new.self) (record_next c.args.self.now.records) (record_now c.commit-2.new.self)
    c.args.self.now.questions.mentions c.commit-3.new.self.mentions (asked_at (values values_next) c.args.self.now.questions.map) (asked_at (values values_now) c.commit-3.new.self.map)
    c.commit.ensures.committed c.commit-2.ensures.committed (c.commit-3.ensures.committed F) is
