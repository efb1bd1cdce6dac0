-- The turns of editors at a desk, by a file of events, or the first fault of the file.
-- Turn                    an event, and the number of the line of its mark
-- at_line line            the fault E7 on this line
-- turn_of mark is commands   the turn of a mark with these commands behind it; E7 on its line where they do not fit
-- behind_mark mark is script   the turn of a mark by its line and what it is: E7 where it is none, before a fault of the script behind it
-- before_marks piece commands   no turn where no mark stands before the commands, and there are none; else E7 on the first one's line
-- piece_turn piece        the turn of a piece, None of what stands before the first mark; or its first fault
-- with_turn turn turns    the turns behind one, where it is there
-- with_piece turn later   the turn of a piece, where it has one, and the turns of those behind it; or the first fault of both
-- turns_of pieces         the turns of all pieces, in order, or the first fault of the first piece that has one
-- turns_or_fault bytes    those of a file of events
-- piece_rule_code rule    the code of a rule that the file breaks
-- told_turns path read    the turns; or the line of the fault: the path, the number of the line, and the rule's code
-- turns_in path file      the same of the bytes of the file; where it is refused as a whole the number of the line is 0
-- turns_told path held    the same of what is held of that file
-- onto turns later        the later turns behind these; or the fault
-- request_turn request    the turn of a request of the code
-- TurnAs result expected  the request stands for the turn that was expected, or the fault is; no claim if memory ran out
-- MarkedAs result expected   the same of a request that is there
-- PutAs result old new turn   what a piece has was put behind the turns before it, or the fault is that of the piece; no claim if
--                         memory ran out
-- TurnsAs result expected    the same of all requests
use Rattle.std.specs.Prelude.{◌≡◌, ℕ, List, [], ◌∷◌, ◌++◌, map, Option, Some, None, Result, Ok, Err, if◌then◌else◌, codes, ⊤, option_map}
use Rattle.ucd_points.specs.Answers.{AnswersBy}
use Rattle.bench_editors.specs.declared.event.Event.{Event}
use Rattle.run_inputs.specs.RefusalLines.{file_rule_code, refused}
use Rattle.run_inputs.specs.Refusals.{script_rule_code}
use Rattle.run_inputs.specs.Verdict.{and_then, second_verdict}
use Rattle.run_inputs.specs.declared.refusal.FileRule.{FileRule}
use Rattle.script_lines.specs.declared.command.Command.{Command}
use Rattle.script_pieces.specs.Pieces.{Mark, Piece, pieces}
use Rattle.script_pieces.specs.Scripts.{PieceFault, misfit_line, piece_script, stop_fault}
use Rattle.script_pieces.specs.declared.stop.PieceRule.{PieceRule}
use Rattle.script_pieces.specs.declared.stop.PieceRule.TheVariants.{E7, Script}
use Rattle.script_pieces.specs.declared.stop.PieceStop.{PieceStop}
use Rattle.script_pieces.specs.declared.stop.PieceStop.TheVariants.{Fault, Memory}
use Rattle.ucdshop_more_core.specs.Marks.{event_of, fits, mark_of}
use Rattle.ucdshop_more_core.specs.declared.desk_mark.DeskMark.{DeskMark}
use Rattle.ucdshop_more_core.specs.declared.requests.Request.{Request}

pub record Turn : Type 0 where
  pub line : ℕ
  pub event : Event

-- ---- a piece

abbrev pub at_line : ℕ → Result (Option Turn) PieceFault
at_line line = Err (record { line = line; rule = E7 })

abbrev pub turn_of : Mark → DeskMark → List Command → Result (Option Turn) PieceFault
turn_of mark is commands = if fits is commands then Ok (Some (record { line = mark.line; event = event_of is commands })) else at_line mark.line

abbrev pub behind_mark : Mark → Option DeskMark → Result (List Command) PieceFault → Result (Option Turn) PieceFault
behind_mark mark None script = at_line mark.line
behind_mark mark (Some is) script = and_then script (turn_of mark is)

abbrev pub before_marks : Piece → List Command → Result (Option Turn) PieceFault
before_marks piece [] = Ok None
before_marks piece (command ∷ later) = at_line (misfit_line piece (command ∷ later))

abbrev pub turn_behind : Piece → Option Mark → Result (Option Turn) PieceFault
turn_behind piece None = and_then (piece_script piece) (before_marks piece)
turn_behind piece (Some mark) = behind_mark mark (mark_of mark.content) (piece_script piece)

abbrev pub piece_turn : Piece → Result (Option Turn) PieceFault
piece_turn piece = turn_behind piece piece.mark

-- ---- the file

abbrev pub with_turn : Option Turn → List Turn → List Turn
with_turn None turns = turns
with_turn (Some turn) turns = turn ∷ turns

abbrev pub with_piece : Result (Option Turn) PieceFault → Result (List Turn) PieceFault → Result (List Turn) PieceFault
with_piece turn later = and_then turn (λ found. and_then later (λ turns. Ok (with_turn found turns)))

abbrev pub turns_of : List Piece → Result (List Turn) PieceFault
turns_of [] = Ok []
turns_of (piece ∷ later) = with_piece (piece_turn piece) (turns_of later)

unfoldable pub turns_or_fault : List ℕ → Result (List Turn) PieceFault
turns_or_fault bytes = turns_of (pieces bytes)

-- ---- what is told of it

abbrev pub piece_rule_code : PieceRule → List ℕ
piece_rule_code E7 = codes "E7"
piece_rule_code (Script rule) = script_rule_code rule

abbrev pub told_turns : List ℕ → Result (List Turn) PieceFault → Result (List Turn) (List ℕ)
told_turns path (Ok turns) = Ok turns
told_turns path (Err fault) = Err (refused path fault.line (piece_rule_code fault.rule))

abbrev pub turns_in : List ℕ → Result (List ℕ) FileRule → Result (List Turn) (List ℕ)
turns_in path (Ok bytes) = told_turns path (turns_or_fault bytes)
turns_in path (Err rule) = Err (refused path 0 (file_rule_code rule))

abbrev pub turns_told : List ℕ → Option (List ℕ) → Result (List Turn) (List ℕ)
turns_told path held = turns_in path (second_verdict held)

-- ---- the code's requests

abbrev pub request_turn : Request → Turn
request_turn request = record { line = request.line; event = event_of request.mark request.commands }

abbrev pub request_turns : List Request → List Turn
request_turns requests = map request_turn requests

abbrev pub TurnAs : Result (Option Request) PieceStop → Result (Option Turn) PieceFault → Type 0
TurnAs result expected = AnswersBy (option_map request_turn) stop_fault result expected

abbrev pub MarkedAs : Result Request PieceStop → Result (Option Turn) PieceFault → Type 0
MarkedAs result expected = AnswersBy (λ request. Some (request_turn request)) stop_fault result expected

abbrev pub onto : List Turn → Result (List Turn) PieceFault → Result (List Turn) PieceFault
onto turns (Ok later) = Ok (turns ++ later)
onto turns (Err fault) = Err fault

abbrev pub PutAs : Result (Unit {0}) PieceStop → List Turn → List Turn → Result (Option Turn) PieceFault → Type 0
PutAs (Ok _) old new turn = (later : Result (List Turn) PieceFault) → onto old (with_piece turn later) ≡ onto new later
PutAs (Err (Fault line rule)) old new turn = turn ≡ Err (record { line = line; rule = rule })
PutAs (Err Memory) old new turn = ⊤

abbrev pub TurnsAs : Result (List Request) PieceStop → Result (List Turn) PieceFault → Type 0
TurnsAs result expected = AnswersBy request_turns stop_fault result expected
