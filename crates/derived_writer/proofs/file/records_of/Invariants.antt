use Rattle.std.proofs.Common.{◌≡◌, ℕ, ◌<◌, length, get_or, Bor}
use Rattle.ucd_points.specs.Bounds.{Bounds}
use Rattle.ucd_model.specs.declared.records.Record.{Record as Kept}
use Rattle.derived_writer.specs.Shown.{IsShown}
use Rattle.derived_writer.proofs.file.records_of.Given as goal

-- the records of the pieces before this one
abbrev pub invariant-pieces : goal.invariant-pieces
invariant-pieces g l = record {
  count : length l.records.items ≡ l.piece-index;
  each : (k : ℕ) (piece : Bounds) (kept : Bor Kept) → k < l.piece-index → IsShown (g.B.Records.record_of l.bench) (get_or l.pieces k piece) (get_or l.records.items k kept);
}
