use Rattle.std.proofs.Common.{ℕ, List, subst}
use Rattle.fact_tables.specs.FactTables.{tables_facts}
use Rattle.dependency_map.specs.Maps.{asked_at}
use Rattle.point_store.specs.SlotStore.{values}
use Rattle.paged_table.specs.Paged.{values_now, values_next}
use Rattle.ucd_facts.specs.Facts.{Facts}
use Rattle.ucd_facts.specs.declared.query.Query.{Query}
use Rattle.edit_session.specs.Questions.{IsListed}
use Rattle.edit_session.proofs.ListedLemmas.{listed_all, listed_more, listed_none}
use Rattle.edit_session.proofs.listed_points.list_questions.Goals as goal

pub points-init : goal.points-init
points-init c = listed_none (tables_facts values_now c.args.tables.now) (asked_at (values values_next) c.args.map.now)

pub points-preserved : goal.points-preserved
points-preserved c =
    let F : ℕ → Facts = tables_facts values_now c.args.tables.now in
    let B : ℕ → List Query = asked_at (values values_next) c.points.map in
    let C : ℕ → List Query = asked_at (values values_next) c.list_point_questions.new.map in
    listed_more F c.args.points.now c.points.c-index c.c-item.result (asked_at (values values_next) c.args.map.now) B C c.points-test.true c.points.invariant (subst (λ k. IsListed F k B C) c.c-item.is c.in_ok-list_point_questions.ensures)

pub returns : goal.returns
returns c =
    listed_all (tables_facts values_now c.args.tables.now) c.args.points.now c.points.c-index (asked_at (values values_next) c.args.map.now) (asked_at (values values_next) c.points.map) c.points-test.false c.points.invariant
