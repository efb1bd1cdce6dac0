use Rattle.std.proofs.Common.{◌≡◌, ℕ, ◌<◌, drop}
use Rattle.record_table.specs.Records.{record_next}
use Rattle.ucd_points.specs.Limits.{point_count}
use Rattle.ucd_model.specs.Cuts.{IsCut}
use Rattle.record_lines.proofs.earlier_records.put_pieces.Given as goal

-- the pieces that are left, and the records before them
abbrev pub invariant-pieces : goal.invariant-pieces
invariant-pieces g l = record {
  cut : IsCut (g.B.Records.record_of l.bench) l.end point_count (drop l.piece-index l.pieces);
  given : (c : ℕ) → c < l.end → record_next l.table c ≡ g.B.Records.record_of l.bench c;
}
