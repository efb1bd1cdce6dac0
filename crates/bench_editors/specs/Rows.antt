-- The rows that groups of operations touch. Groups are numbered from 1 in their list.
-- Touched                    a row, by its file and its key
-- row_of op                  the row that an operation touches
-- same_row a b               the same file, and equal keys
-- touches row ops            an operation of the group touches the row
-- touches_any others ops     an operation of the group touches the row of one of the others
-- last_passing p groups      the number of the last group that passes; 0 if none does
-- last_touched groups row    the number of the last group that touches the row; 0 if none does
use Rattle.std.specs.Prelude.{ℕ, ◌-◌, Bool, ◌&&◌, not, ◌==◌, List, length}
use Rattle.std.specs.List.{list_any, suffix_len}
use Rattle.ucd_points.specs.SourceFiles.{file_place}
use Rattle.source_rows.specs.Keys.{key_of, equal_keys, SourceFile}
use Rattle.source_rows.specs.declared.key.Key.{Key}
use Rattle.release_rows.specs.declared.operation.Op.{Op}
use Rattle.release_rows.specs.declared.operation.Op.TheVariants.{Add, Change, Withdraw}

pub record Touched : Type 0 where
  pub file : SourceFile
  pub key : Key

abbrev pub row_of : Op → Touched
row_of (Add file row bytes) = record { file = file; key = key_of file row }
row_of (Change file row bytes) = record { file = file; key = key_of file row }
row_of (Withdraw file key) = record { file = file; key = key }

abbrev pub same_row : Touched → Touched → Bool
same_row a b = (file_place a.file == file_place b.file) && equal_keys a.key b.key

abbrev pub touches : Touched → List Op → Bool
touches row ops = list_any (λ op. same_row row (row_of op)) ops

abbrev pub touches_any : List Op → List Op → Bool
touches_any others ops = list_any (λ other. touches (row_of other) ops) others

abbrev pub last_passing : (List Op → Bool) → List (List Op) → ℕ
last_passing p groups = length groups - suffix_len (λ ops. not (p ops)) groups

abbrev pub last_touched : List (List Op) → Touched → ℕ
last_touched groups row = last_passing (touches row) groups
