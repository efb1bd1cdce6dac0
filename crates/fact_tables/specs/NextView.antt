-- The facts next that a view of tables shows.
--
-- facts_next now view   the facts of all numbers that the tables of the view keep next
use Rattle.std.specs.Prelude.{ℕ}
use Rattle.ucd_facts.specs.Facts.{Facts}
use Rattle.range_table.specs.declared.table.Table.{Ghosts}
use Rattle.fact_tables.specs.FactTables.{tables_next}
use Rattle.fact_tables.specs.declared.next_view.NextView.{NextView}

abbrev pub facts_next : {T : Type 0} {d : Ghosts T ℕ} → (T → ℕ → ℕ) → NextView T d → ℕ → Facts
facts_next now view = tables_next now view.tables.now
