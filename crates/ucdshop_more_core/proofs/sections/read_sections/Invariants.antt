use Rattle.std.proofs.Common.{◌≡◌, ◌+◌, All, length}
use Rattle.script_pieces.specs.Pieces.{FitsBelow}
use Rattle.ucdshop_more_core.specs.Drafts.{AreWellFormed}
use Rattle.ucdshop_more_core.specs.Moves.{all_moves, moves_of, moves_or_fault, onto}
use Rattle.ucdshop_more_core.proofs.sections.read_sections.Given as goal

-- the moves so far, and behind them those of the pieces that are left, are those of all pieces
abbrev pub invariant-pieces : goal.invariant-pieces
invariant-pieces l = record {
  whole : onto (all_moves l.sections) (moves_of l.piece-iterator) ≡ moves_or_fault l.bytes;
  fits : All (FitsBelow (1 + length l.bytes)) l.piece-iterator;
  ready : AreWellFormed l.sections;
}
