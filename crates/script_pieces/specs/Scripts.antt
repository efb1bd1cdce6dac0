-- The script of a piece, or its first fault.
-- PieceFault                  the number of a line of the file, and the rule that is broken there
-- piece_script piece          the commands of the piece, whose lines are counted in the file; or its first fault
-- first_line_of commands n    the line of the first of these commands; n where there are none
-- misfit_line piece commands  where the piece does not fit its mark, the line that says so: the mark's, or where it has none that
--                             of its first command
-- stop_fault stop             the fault that the stop tells; None if memory ran out
-- PieceCommandsAs result expected   the commands, or the fault, are what was expected; no claim if memory ran out
use Rattle.std.specs.Prelude.{ℕ, List, [], ◌∷◌, Option, Some, None, Result, Ok, Err, ⊤}
use Rattle.ucd_points.specs.Answers.{AnswersBy}
use Rattle.script_lines.specs.Scripts.{ScriptFault, script_from}
use Rattle.script_lines.specs.declared.command.Command.{Command}
use Rattle.script_pieces.specs.Pieces.{Mark, Piece}
use Rattle.script_pieces.specs.declared.stop.PieceRule.{PieceRule}
use Rattle.script_pieces.specs.declared.stop.PieceRule.TheVariants.{Script}
use Rattle.script_pieces.specs.declared.stop.PieceStop.{PieceStop}
use Rattle.script_pieces.specs.declared.stop.PieceStop.TheVariants.{Fault, Memory}

pub record PieceFault : Type 0 where
  pub line : ℕ
  pub rule : PieceRule

abbrev pub in_piece : Result (List Command) ScriptFault → Result (List Command) PieceFault
in_piece (Ok commands) = Ok commands
in_piece (Err fault) = Err (record { line = fault.line; rule = Script fault.rule })

abbrev pub piece_script : Piece → Result (List Command) PieceFault
piece_script piece = in_piece (script_from piece.first_line piece.body)

abbrev pub first_line_of : List Command → ℕ → ℕ
first_line_of [] n = n
first_line_of (command ∷ rest) n = command.line

abbrev pub misfit_by : Option Mark → ℕ → ℕ
misfit_by None n = n
misfit_by (Some mark) n = mark.line

abbrev pub misfit_line : Piece → List Command → ℕ
misfit_line piece commands = misfit_by piece.mark (first_line_of commands piece.first_line)

abbrev pub stop_fault : PieceStop → Option PieceFault
stop_fault (Fault line rule) = Some (record { line = line; rule = rule })
stop_fault Memory = None

abbrev pub PieceCommandsAs : Result (List Command) PieceStop → Result (List Command) PieceFault → Type 0
PieceCommandsAs result expected = AnswersBy (λ commands. commands) stop_fault result expected
