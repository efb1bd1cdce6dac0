use Rattle.std.proofs.Common.{◌≡◌, ◌+◌, ◌≤◌, All, length}
use Rattle.script_pieces.specs.Pieces.{FitsBelow}
use Rattle.ucdshop_more_core.specs.Sessions.{AreWellFormed}
use Rattle.ucdshop_more_core.specs.Turns.{onto, request_turns, turns_of, turns_or_fault}
use Rattle.ucdshop_more_core.proofs.requests.read_requests.Given as goal

-- the turns so far, and behind them those of the pieces that are left, are those of all pieces
abbrev pub invariant-pieces : goal.invariant-pieces
invariant-pieces l = record {
  whole : onto (request_turns l.requests) (turns_of l.piece-iterator) ≡ turns_or_fault l.bytes;
  fits : All (FitsBelow (1 + length l.bytes)) l.piece-iterator;
  ready : AreWellFormed l.requests;
  few : length l.requests + length l.piece-iterator ≤ 1 + length l.bytes;
}
