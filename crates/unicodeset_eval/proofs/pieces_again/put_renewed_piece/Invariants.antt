use Rattle.std.proofs.Common.{◌-◌, ◌≤◌}
use Rattle.number_sets.specs.Keys.{has}
use Rattle.unicodeset_eval.specs.PiecesAgain.{NoneBefore}
use Rattle.unicodeset_eval.specs.RecordPieces.{AreCutTo}
use Rattle.unicodeset_eval.proofs.pieces_again.put_renewed_piece.Given as goal

-- the code points before `from` are put, and none changed from there to before `point`
abbrev pub invariant-points : goal.invariant-points
invariant-points g l = record {
  begun : l.piece.first ≤ l.from;
  within : l.from ≤ l.end;
  next : NoneBefore (has l.changed) l.from l.point;
  put : AreCutTo (g.B.Records.record_of l.bench) l.from l.made.items;
}

abbrev pub decreases-points : goal.decreases-points
decreases-points g l = l.end - l.from
