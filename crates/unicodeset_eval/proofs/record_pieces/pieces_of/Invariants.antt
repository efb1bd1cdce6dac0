use Rattle.std.proofs.Common.{ℕ, ◌≤◌, length}
use Rattle.ucd_model.specs.Cuts.{IsCut}
use Rattle.ucd_points.specs.Limits.{point_count}
use Rattle.unicodeset_eval.specs.PiecesAgain.{IsAlikeIn}
use Rattle.unicodeset_eval.specs.RecordPieces.{AreCutTo}
use Rattle.unicodeset_eval.proofs.record_pieces.pieces_of.Given as goal

-- the code points before `begun` are put, and all from there to before the spans that are left have the same values
abbrev pub invariant-spans : goal.invariant-spans
invariant-spans g l = record {
  end : ℕ;
  ordered : l.begun ≤ end;
  cut : IsCut (g.B.Records.record_of l.bench) end point_count l.left;
  alike : IsAlikeIn (g.B.Records.record_of l.bench) l.begun end l.values;
  put : AreCutTo (g.B.Records.record_of l.bench) l.begun l.pieces.items;
}

abbrev pub decreases-spans : goal.decreases-spans
decreases-spans g l = length l.left
