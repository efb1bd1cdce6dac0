use Rattle.code_facts.proofs.DataLemmas.{RowsGive}
use Rattle.code_facts.specs.DataTables.{data_next}
use Rattle.code_facts.proofs.data_tables.DataRuns.add_rows.Given as goal

-- what the rows before this one give
abbrev pub invariant-rows : goal.invariant-rows
invariant-rows l = RowsGive l.rows l.row-index (data_next l.self)
