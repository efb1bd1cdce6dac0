-- What is kept of a row while its file is loaded: its key, the last code point that no other row may have, and what is kept of what
-- the row gives.
-- IsFree result place rule     the place is handed back where there is no rule, else the result is the rule
-- IsLoadedRow file row e           e has the names of the row's key, its first code point, the last one that may not be shared, the last one
--                              of all, and what is kept of what the row gives
-- EntersAs file result row     the result is what is kept of the row, or the fault; no claim if memory ran out
-- EntersSome file o row        o is what is kept of the row, where there is one; None where there is none
use Rattle.std.specs.Prelude.{◌≡◌, ◌≤◌, Option, Some, None, Result, Ok, Err}
use Rattle.source_rows.specs.declared.fault.RowFault.{RowFault}
use Rattle.source_rows.specs.declared.fault.RowStop.{RowStop}
use Rattle.source_rows.specs.declared.fault.RowStop.TheVariants.{Fault, Memory}
use Rattle.source_rows.specs.Keys.{row_span, key_names}
use Rattle.release_rows.specs.Briefs.{brief_of}
use Rattle.release_rows.specs.Keys.{row_end, SourceFile, Row}
use Rattle.release_rows.specs.Places.{names_in}
use Rattle.release_rows.specs.declared.loaded_row.LoadedRow.{LoadedRow}
use Rattle.release_rows.specs.declared.conflict.Conflict.{Conflict}
use Rattle.release_rows.specs.declared.sort_key.SortKey.{SortKey}

abbrev pub IsFree : Result SortKey Conflict → SortKey → Option Conflict → Type 0
IsFree (Ok free) place rule = (free ≡ place) × (rule ≡ None)
IsFree (Err broken) place rule = rule ≡ Some broken

pub record IsLoadedRow (file : SourceFile) (row : Row) (e : LoadedRow) : Type 0 where
  pub names : names_in e.place ≡ key_names file row
  pub code : e.place.code ≡ (row_span row).lo
  pub last : e.last ≡ row_end file row
  pub ordered : e.place.code ≤ e.last
  pub reach : e.reach ≡ (row_span row).hi
  pub brief : e.brief ≡ brief_of (Some row)

abbrev pub EntersAs : SourceFile → Result LoadedRow RowStop → Result Row RowFault → Type 0
EntersAs file (Ok e) (Ok row) = IsLoadedRow file row e
EntersAs file (Ok e) (Err fault) = ⊥
EntersAs file (Err (Fault fault)) row = row ≡ Err fault
EntersAs file (Err Memory) row = Unit {0}

abbrev pub EntersSome : SourceFile → Option LoadedRow → Option Row → Type 0
EntersSome file None None = Unit {0}
EntersSome file (Some e) (Some row) = IsLoadedRow file row e
EntersSome file None (Some row) = ⊥
EntersSome file (Some e) None = ⊥
