use Rattle.fact_tables.specs.FactTables.{tables_facts}
use Rattle.dependency_map.specs.Maps.{asked_at}
use Rattle.point_store.specs.SlotStore.{values}
use Rattle.paged_table.specs.Paged.{values_now, values_next}
use Rattle.edit_session.proofs.ListedLemmas.{listed_one}
use Rattle.edit_session.proofs.listed_points.prepare_questions.Goals as goal

pub returns : goal.returns
returns c =
    listed_one (tables_facts values_now c.args.tables.now) (asked_at (values values_next) c.args.map.now) (asked_at (values values_next) c.prepare.new.self) c.args.c c.in_ok-questions.questions c.requires.inside c.in_ok-questions.ensures.asked
    c.in_ok-prepare.ensures.ok
