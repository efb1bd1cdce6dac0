-- What a script asks of a history, or the first fault of the script. A line `@ undo` is a mark: it takes the latest group back.
-- Move                    Apply line ops, to carry a group out whose command begins on this line; or TakeBack line, to take the latest
--                         group back, by the mark on this line
-- at_line line            the fault E7 on this line
-- is_undo content         the mark of a line is `@ undo`
-- group_move command      the move of a command that is a group
-- line_moves line         the move of a mark on this line, where there is one
-- mark_line piece         the number of the line of its mark, where it has one
-- are_groups commands     each is a group, and none a question
-- moves_behind piece commands   the moves of a piece with these commands; E7 where one of them is a question: on the mark's line, or where
--                         the piece has no mark on that of its first command
-- moves_by piece script   the moves of a piece with this script; or the script's first fault, before an E7 of a question
-- marked_moves piece mark the moves of a piece by its mark; E7 on the mark's line where that is no `@ undo`, before a fault of the script
-- piece_moves piece       the moves of a piece, or its first fault
-- with_piece moves later  the moves of a piece, and those of the pieces behind it; or the first fault of both
-- moves_of pieces         the moves of all pieces, in order, or the first fault of the first piece that has one
-- moves_or_fault bytes    those of a script
-- told_moves path read    the moves; or the line of the fault: the path, the number of the line, and the rule's code
-- moves_in path file      the same of the bytes of the file; where it is refused as a whole the number of the line is 0
-- moves_told path held    the same of what is held of that file
-- onto moves later        the later moves behind these; or the fault
-- section_moves section   the moves of a section of the code
-- all_moves sections      those of all sections, in order
-- SectionAs result expected   the section stands for the moves that were expected, or the fault is; no claim if memory ran out
-- PutAs result old new moves   what a piece has was put behind the moves before it, or the fault is that of the piece; no claim if
--                         memory ran out
-- SectionsAs result expected   the same of all sections
use Rattle.std.specs.Prelude.{◌≡◌, ℕ, Bool, List, [], ◌∷◌, ◌++◌, map, Option, Some, None, Result, Ok, Err, if◌then◌else◌, codes, ⊤, option_map, bytes_eq}
use Rattle.std.specs.List.{flat_map, list_all}
use Rattle.ucd_points.specs.Answers.{AnswersBy}
use Rattle.release_rows.specs.declared.operation.Op.{Op}
use Rattle.run_inputs.specs.RefusalLines.{file_rule_code, refused}
use Rattle.run_inputs.specs.Verdict.{and_then, second_verdict}
use Rattle.run_inputs.specs.declared.refusal.FileRule.{FileRule}
use Rattle.script_lines.specs.declared.command.Command.{Command}
use Rattle.script_pieces.specs.Pieces.{Mark, Piece, pieces}
use Rattle.script_pieces.specs.Scripts.{PieceFault, misfit_line, piece_script, stop_fault}
use Rattle.script_pieces.specs.declared.stop.PieceRule.TheVariants.{E7}
use Rattle.script_pieces.specs.declared.stop.PieceStop.{PieceStop}
use Rattle.script_pieces.specs.declared.stop.PieceStop.TheVariants.{Fault, Memory}
use Rattle.ucdshop_more_core.specs.Marks.{is_group, ops_in}
use Rattle.ucdshop_more_core.specs.Turns.{piece_rule_code}
use Rattle.ucdshop_more_core.specs.declared.sections.Section.{Section}

pub data Move : Type 0 where
  Apply : (line : ℕ) (ops : List Op) → Move
  TakeBack : (line : ℕ) → Move

abbrev pub at_line : ℕ → PieceFault
at_line line = record { line = line; rule = E7 }

-- ---- a piece

abbrev pub is_undo : List ℕ → Bool
is_undo content = bytes_eq content (codes "@ undo")

abbrev pub group_move : Command → Move
group_move command = Apply command.line (ops_in command.what)

abbrev pub line_moves : Option ℕ → List Move
line_moves None = []
line_moves (Some line) = TakeBack line ∷ []

abbrev pub mark_line : Piece → Option ℕ
mark_line piece = option_map (λ (mark : Mark). mark.line) piece.mark

abbrev pub are_groups : List Command → Bool
are_groups commands = list_all (λ command. is_group command.what) commands

abbrev pub moves_behind : Piece → List Command → Result (List Move) PieceFault
moves_behind piece commands = if are_groups commands then Ok (line_moves (mark_line piece) ++ map group_move commands) else Err (at_line (misfit_line piece commands))

abbrev pub moves_by : Piece → Result (List Command) PieceFault → Result (List Move) PieceFault
moves_by piece script = and_then script (moves_behind piece)

abbrev pub marked_moves : Piece → Option Mark → Result (List Move) PieceFault
marked_moves piece None = moves_by piece (piece_script piece)
marked_moves piece (Some mark) = if is_undo mark.content then moves_by piece (piece_script piece) else Err (at_line mark.line)

abbrev pub piece_moves : Piece → Result (List Move) PieceFault
piece_moves piece = marked_moves piece piece.mark

-- ---- the script

abbrev pub with_piece : Result (List Move) PieceFault → Result (List Move) PieceFault → Result (List Move) PieceFault
with_piece moves later = and_then moves (λ first. and_then later (λ more. Ok (first ++ more)))

abbrev pub moves_of : List Piece → Result (List Move) PieceFault
moves_of [] = Ok []
moves_of (piece ∷ later) = with_piece (piece_moves piece) (moves_of later)

unfoldable pub moves_or_fault : List ℕ → Result (List Move) PieceFault
moves_or_fault bytes = moves_of (pieces bytes)

-- ---- what is told of it

abbrev pub told_moves : List ℕ → Result (List Move) PieceFault → Result (List Move) (List ℕ)
told_moves path (Ok moves) = Ok moves
told_moves path (Err fault) = Err (refused path fault.line (piece_rule_code fault.rule))

abbrev pub moves_in : List ℕ → Result (List ℕ) FileRule → Result (List Move) (List ℕ)
moves_in path (Ok bytes) = told_moves path (moves_or_fault bytes)
moves_in path (Err rule) = Err (refused path 0 (file_rule_code rule))

abbrev pub moves_told : List ℕ → Option (List ℕ) → Result (List Move) (List ℕ)
moves_told path held = moves_in path (second_verdict held)

-- ---- the code's sections

abbrev pub section_moves : Section → List Move
section_moves section = line_moves section.undo ++ map group_move section.commands

abbrev pub all_moves : List Section → List Move
all_moves sections = flat_map section_moves sections

abbrev pub SectionAs : Result Section PieceStop → Result (List Move) PieceFault → Type 0
SectionAs result expected = AnswersBy section_moves stop_fault result expected

abbrev pub onto : List Move → Result (List Move) PieceFault → Result (List Move) PieceFault
onto moves (Ok later) = Ok (moves ++ later)
onto moves (Err fault) = Err fault

abbrev pub PutAs : Result (Unit {0}) PieceStop → List Move → List Move → Result (List Move) PieceFault → Type 0
PutAs (Ok _) old new moves = (later : Result (List Move) PieceFault) → onto old (with_piece moves later) ≡ onto new later
PutAs (Err (Fault line rule)) old new moves = moves ≡ Err (record { line = line; rule = rule })
PutAs (Err Memory) old new moves = ⊤

abbrev pub SectionsAs : Result (List Section) PieceStop → Result (List Move) PieceFault → Type 0
SectionsAs result expected = AnswersBy all_moves stop_fault result expected
