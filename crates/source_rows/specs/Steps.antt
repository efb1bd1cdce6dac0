-- Steps of reading, each of which gives what was found or the first fault.
-- or_fault fault found use   what is made of what was found; the fault where nothing was
-- and_then found use         what is made of what was found; the fault that was found instead
use Rattle.std.specs.Prelude.{Option, Some, None, Result, Ok, Err}
use Rattle.source_rows.specs.declared.fault.RowFault.{RowFault}

abbrev pub or_fault : {A B : Type 0} → RowFault → Option A → (A → Result B RowFault) → Result B RowFault
or_fault fault (Some a) use_it = use_it a
or_fault fault None use_it = Err fault

abbrev pub and_then : {A B : Type 0} → Result A RowFault → (A → Result B RowFault) → Result B RowFault
and_then (Ok a) use_it = use_it a
and_then (Err fault) use_it = Err fault
