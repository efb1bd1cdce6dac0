-- The facts that a view of tables shows.
--
-- facts_now now view   the facts of all numbers that the tables of the view keep now
use Rattle.std.specs.Prelude.{ℕ}
use Rattle.ucd_facts.specs.Facts.{Facts}
use Rattle.range_table.specs.declared.table.Table.{Ghosts}
use Rattle.fact_tables.specs.FactTables.{tables_facts}
use Rattle.fact_tables.specs.declared.view.NowView.{NowView}

abbrev pub facts_now : {T : Type 0} {d : Ghosts T ℕ} → (T → ℕ → ℕ) → NowView T d → ℕ → Facts
facts_now now view = tables_facts now view.tables.now
