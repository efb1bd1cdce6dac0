use Rattle.std.proofs.Common.{length}
use Rattle.number_sets.specs.Keys.{has}
use Rattle.unicodeset_eval.specs.PiecesAgain.{AreLeft, NoneBefore, end_before}
use Rattle.unicodeset_eval.specs.RecordPieces.{AreCutTo}
use Rattle.unicodeset_eval.proofs.pieces_again.pieces_again.Given as goal

-- the code points before the pieces that are left are put
abbrev pub invariant-pieces : goal.invariant-pieces
invariant-pieces g l = record {
  left : AreLeft (g.B.Records.record_of l.bench) (has l.changed) (end_before l.left) l.left;
  next : NoneBefore (has l.changed) (end_before l.left) l.next;
  put : AreCutTo (g.B.Records.record_of l.bench) (end_before l.left) l.made.items;
}

abbrev pub decreases-pieces : goal.decreases-pieces
decreases-pieces g l = length l.left
