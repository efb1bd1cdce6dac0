use Rattle.std.proofs.Common.{length}
use Rattle.script_pieces.proofs.CutLemmas.{IsReached}
use Rattle.script_pieces.proofs.pieces.first_piece.Given as goal

abbrev pub decreases-lines : goal.decreases-lines
decreases-lines l = length l.rest

-- the lines so far are no marks
abbrev pub invariant-lines : goal.invariant-lines
invariant-lines l = IsReached l.text l.first_line l.rest l.line
