use Rattle.std.proofs.Common.{take}
use Rattle.fact_tables.specs.FactTables.{tables_facts}
use Rattle.dependency_map.specs.Maps.{asked_at}
use Rattle.point_store.specs.SlotStore.{values}
use Rattle.paged_table.specs.Paged.{values_now, values_next}
use Rattle.edit_session.specs.Questions.{AreListed}
use Rattle.edit_session.proofs.listed_points.list_questions.Given as goal

-- what the points so far ask is listed
abbrev pub invariant-points : goal.invariant-points
invariant-points l = AreListed (tables_facts values_now l.tables) (take l.c-index l.points) (asked_at (values values_next) l.initial.map) (asked_at (values values_next) l.map)
