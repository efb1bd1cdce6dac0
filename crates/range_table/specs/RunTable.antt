-- Run tables, as contracts see them.
-- values_now t     the values now
-- values_next t    the values next: those that were prepared, or else those of now
use Rattle.std.specs.Prelude.{ℕ, unwrap_or}
use Rattle.range_table.specs.declared.run_table.RunTable.{RunTable}
use Rattle.range_table.specs.Layout.{values}

abbrev pub values_now : {V : Type 0} → RunTable V → ℕ → V
values_now t = values t.committed

abbrev pub values_next : {V : Type 0} → RunTable V → ℕ → V
values_next t = values (unwrap_or t.prepared t.committed)
