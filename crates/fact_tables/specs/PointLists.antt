-- The list of each code point.
--
-- lists_now l, lists_next l   the lists now, and next
use Rattle.std.specs.Prelude.{ℕ, List}
use Rattle.range_table.specs.RunTable.{values_now, values_next}
use Rattle.fact_tables.specs.Lists.{lists_at}
use Rattle.fact_tables.specs.declared.point_lists.PointLists.{PointLists}

abbrev pub lists_now : PointLists → ℕ → List ℕ
lists_now l = lists_at l.pool.items (values_now l.places)

abbrev pub lists_next : PointLists → ℕ → List ℕ
lists_next l = lists_at l.pool.items (values_next l.places)
