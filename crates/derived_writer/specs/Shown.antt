-- The records of pieces, looked up once.
-- IsShown R piece kept         the record that is kept is that of the first code point of the piece
-- AreShown R pieces records    so is each, piece by piece
use Rattle.std.specs.Prelude.{◌≡◌, ℕ, ◌<◌, List, length, slice_index_or}
use Rattle.std.specs.Borrow.{Bor}
use Rattle.ucd_points.specs.Bounds.{Bounds}
use Rattle.ucd_model.specs.Records.{Record, kept_record}
use Rattle.ucd_model.specs.declared.records.Record.{Record as Kept}

abbrev pub IsShown : (ℕ → Record) → Bounds → Bor Kept → Type 0
IsShown R piece kept = kept_record kept.now ≡ R piece.lo

pub record AreShown (R : ℕ → Record) (pieces : List Bounds) (records : List (Bor Kept)) : Type 0 where
  pub count : length records ≡ length pieces
  pub each : (k : ℕ) (piece : Bounds) (kept : Bor Kept) → k < length pieces → IsShown R (slice_index_or pieces k piece) (slice_index_or records k kept)
