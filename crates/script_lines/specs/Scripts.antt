-- The commands of a script, or the first fault.
-- ScriptFault                  the number of a line, and the rule that is broken there
-- ScriptPiece                  a line, and the one behind it where the first begins a range
-- opens_range said             a row of UnicodeData.txt is put, by the first line of a range
-- script_pieces lines          a line that opens a range and the next one, whatever that is, are one piece; every other line is
--                              one, and so is a line that opens a range at the end of the script
-- piece_lines piece            how many lines it has
-- joined_text text last        the two lines of a range, with LF between them; the text where there is no second one
-- row_text text next           what a row is read from: LINE, and behind it that of a `last` line where the next line is one. By
--                              itself the first line of a range is no row
-- has_last next                the next line is a `last` line
-- fault_line n file text next fault   the line of a row's fault: that of `last` where the fault is that of the second line of a
--                              range, else this one
-- op_of put file row bytes     the operation that puts the row
-- row_op n put file text next  the operation of a line that puts a row, or the row's fault
-- key_op n file text           the operation of a line that takes a row out, or the key's fault
-- one_group n ops              the command of a group
-- begun n script               with a group that is open; E3 where one is
-- ended n script               with the open group closed; E1 where none is open
-- question n text              the command that asks a question
-- asked n text script          with a question of this text; E4 where a group is open
-- with_op n op script          with one more operation: in the open group, or as a group of its own
-- is_full group                the open group has 4,096 operations
-- operated n script op         with one more operation; E5 where the group is full, before the operation's own fault
-- step n script piece          the script with what a piece says, or its fault; n is the number of the piece's line
-- steps n script pieces        the same of pieces, one after the other, up to the first fault
-- closed result                the commands, or the fault; E2 where a group is open at the end
-- script_from n bytes          the commands of a script whose first line has the number n, or its first fault
-- script_or_fault bytes        the same of a script whose first line has the number 1
-- stop_fault stop              the fault that the stop tells; None if memory ran out
-- StepsAs result new expected  a result and what it leaves are what was expected; no claim if memory ran out
-- OpAs result expected         an operation, or the fault, is what was expected; no claim if memory ran out
-- CommandsAs result expected   the commands, or the fault, are what was expected; no claim if memory ran out
use Rattle.std.specs.Prelude.{◌≡◌, ℕ, ◌+◌, Bool, false, ◌&&◌, List, [], ◌∷◌, ◌++◌, length, Option, Some, None, is_some, Result, Ok, Err, ◌==◌, if◌then◌else◌}
use Rattle.ucd_points.specs.Answers.{AnswersBy}
use Rattle.ucd_points.specs.Lines.{LineItem, items_of}
use Rattle.ucd_points.specs.declared.files.SourceFile.TheVariants.{UnicodeData}
use Rattle.source_rows.specs.Faults.{row_or_fault, SourceFile, Row as RowValue}
use Rattle.source_rows.specs.KeyGrammar.{key_or_fault}
use Rattle.source_rows.specs.Lines.{is_first_line}
use Rattle.source_rows.specs.declared.fault.RowFault.{RowFault}
use Rattle.source_rows.specs.declared.key.Key.{Key}
use Rattle.release_rows.specs.Loading.{is_g04, lacks_its_last}
use Rattle.release_rows.specs.declared.operation.Op.{Op}
use Rattle.release_rows.specs.declared.operation.Op.TheVariants.{Add as AddRow, Change as ChangeRow, Withdraw as WithdrawRow}
use Rattle.script_lines.specs.Lines.{Said, nothing, begins, ends, asks, puts, withdraws, no_command, said, last_text}
use Rattle.script_lines.specs.declared.command.Command.{Command}
use Rattle.script_lines.specs.declared.command.What.TheVariants.{Group, Question}
use Rattle.script_lines.specs.declared.group.OpenGroup.{OpenGroup}
use Rattle.script_lines.specs.declared.line.Put.{Put}
use Rattle.script_lines.specs.declared.line.Put.TheVariants.{Add, Change}
use Rattle.script_lines.specs.declared.script.Script.{Script}
use Rattle.script_lines.specs.declared.stop.ScriptRule.{ScriptRule}
use Rattle.script_lines.specs.declared.stop.ScriptRule.TheVariants.{E1, E2, E3, E4, E5, E6}
use Rattle.script_lines.specs.declared.stop.ScriptStop.{ScriptStop}
use Rattle.script_lines.specs.declared.stop.ScriptStop.TheVariants.{Fault, Memory}

pub record ScriptFault : Type 0 where
  pub line : ℕ
  pub rule : ScriptRule

-- ---- pieces

pub record ScriptPiece : Type 0 where
  pub line : List ℕ
  pub next : Option (List ℕ)

abbrev pub opens_range : Said → Bool
opens_range (puts put UnicodeData text) = is_first_line text
opens_range _ = false

abbrev pub script_pieces : List LineItem → List ScriptPiece
script_pieces [] = []
script_pieces (a ∷ []) = record { line = a.content; next = None } ∷ []
script_pieces (a ∷ b ∷ rest) = if opens_range (said a.content) then record { line = a.content; next = Some b.content } ∷ script_pieces rest else record { line = a.content; next = None } ∷ script_pieces (b ∷ rest)

abbrev pub piece_lines : ScriptPiece → ℕ
piece_lines piece = if is_some piece.next then 2 else 1

-- ---- operations

abbrev pub joined_text : List ℕ → Option (List ℕ) → List ℕ
joined_text text (Some last) = text ++ 10 ∷ last
joined_text text None = text

abbrev pub last_of : Option (List ℕ) → Option (List ℕ)
last_of (Some next) = last_text next
last_of None = None

abbrev pub row_text : List ℕ → Option (List ℕ) → List ℕ
row_text text next = joined_text text (last_of next)

abbrev pub has_last : Option (List ℕ) → Bool
has_last next = is_some (last_of next)

abbrev pub is_last_fault : SourceFile → List ℕ → Option (List ℕ) → RowFault → Bool
is_last_fault file text next fault = is_g04 fault && (has_last next && lacks_its_last (row_or_fault file text))

abbrev pub fault_line : ℕ → SourceFile → List ℕ → Option (List ℕ) → RowFault → ℕ
fault_line n file text next fault = if is_last_fault file text next fault then n + 1 else n

abbrev pub op_of : Put → SourceFile → RowValue → List ℕ → Op
op_of Add file row bytes = AddRow file row bytes
op_of Change file row bytes = ChangeRow file row bytes

abbrev pub row_op_by : ℕ → Put → SourceFile → List ℕ → Option (List ℕ) → Result RowValue RowFault → Result Op ScriptFault
row_op_by n put file text next (Ok row) = Ok (op_of put file row (row_text text next))
row_op_by n put file text next (Err fault) = Err (record { line = fault_line n file text next fault; rule = E6 fault })

abbrev pub row_op : ℕ → Put → SourceFile → List ℕ → Option (List ℕ) → Result Op ScriptFault
row_op n put file text next = row_op_by n put file text next (row_or_fault file (row_text text next))

abbrev pub key_op_by : ℕ → SourceFile → Result Key RowFault → Result Op ScriptFault
key_op_by n file (Ok key) = Ok (WithdrawRow file key)
key_op_by n file (Err fault) = Err (record { line = n; rule = E6 fault })

abbrev pub key_op : ℕ → SourceFile → List ℕ → Result Op ScriptFault
key_op n file text = key_op_by n file (key_or_fault file text)

-- ---- groups

abbrev pub one_group : ℕ → List Op → Command
one_group n ops = record { line = n; what = Group ops }

abbrev pub at_line : ℕ → ScriptRule → Result Script ScriptFault
at_line n rule = Err (record { line = n; rule = rule })

abbrev pub begun_by : ℕ → Script → Option OpenGroup → Result Script ScriptFault
begun_by n script (Some group) = at_line n E3
begun_by n script None = Ok (record { commands = script.commands; group = Some (record { line = n; ops = [] }) })

abbrev pub begun : ℕ → Script → Result Script ScriptFault
begun n script = begun_by n script script.group

abbrev pub ended_by : ℕ → Script → Option OpenGroup → Result Script ScriptFault
ended_by n script (Some group) = Ok (record { commands = script.commands ++ one_group group.line group.ops ∷ []; group = None })
ended_by n script None = at_line n E1

abbrev pub ended : ℕ → Script → Result Script ScriptFault
ended n script = ended_by n script script.group

abbrev pub question : ℕ → List ℕ → Command
question n text = record { line = n; what = Question text }

abbrev pub asked_by : ℕ → List ℕ → Script → Option OpenGroup → Result Script ScriptFault
asked_by n text script (Some group) = at_line n E4
asked_by n text script None = Ok (record { commands = script.commands ++ question n text ∷ []; group = None })

abbrev pub asked : ℕ → List ℕ → Script → Result Script ScriptFault
asked n text script = asked_by n text script script.group

abbrev pub with_op_by : ℕ → Op → Script → Option OpenGroup → Script
with_op_by n op script (Some group) = record { commands = script.commands; group = Some (record { line = group.line; ops = group.ops ++ op ∷ [] }) }
with_op_by n op script None = record { commands = script.commands ++ one_group n (op ∷ []) ∷ []; group = None }

abbrev pub with_op : ℕ → Op → Script → Script
with_op n op script = with_op_by n op script script.group

abbrev pub is_full : Option OpenGroup → Bool
is_full (Some group) = length group.ops == 4096
is_full None = false

abbrev pub with_found : ℕ → Script → Result Op ScriptFault → Result Script ScriptFault
with_found n script (Ok op) = Ok (with_op n op script)
with_found n script (Err fault) = Err fault

abbrev pub operated : ℕ → Script → Result Op ScriptFault → Result Script ScriptFault
operated n script op = if is_full script.group then at_line n E5 else with_found n script op

-- ---- the script

abbrev pub step_by : ℕ → Script → Option (List ℕ) → Said → Result Script ScriptFault
step_by n script next nothing = Ok script
step_by n script next begins = begun n script
step_by n script next ends = ended n script
step_by n script next (asks text) = asked n text script
step_by n script next (puts put file text) = operated n script (row_op n put file text next)
step_by n script next (withdraws file text) = operated n script (key_op n file text)
step_by n script next no_command = at_line n E1

abbrev pub step : ℕ → Script → ScriptPiece → Result Script ScriptFault
step n script piece = step_by n script piece.next (said piece.line)

abbrev pub then_steps : Result Script ScriptFault → (Script → Result Script ScriptFault) → Result Script ScriptFault
then_steps (Ok script) more = more script
then_steps (Err fault) more = Err fault

abbrev pub steps : ℕ → Script → List ScriptPiece → Result Script ScriptFault
steps n script [] = Ok script
steps n script (piece ∷ pieces) = then_steps (step n script piece) (λ next. steps (n + piece_lines piece) next pieces)

abbrev pub closed_by : List Command → Option OpenGroup → Result (List Command) ScriptFault
closed_by commands (Some group) = Err (record { line = group.line; rule = E2 })
closed_by commands None = Ok commands

abbrev pub closed : Result Script ScriptFault → Result (List Command) ScriptFault
closed (Ok script) = closed_by script.commands script.group
closed (Err fault) = Err fault

abbrev pub empty_script : Script
empty_script = record { commands = []; group = None }

unfoldable pub script_from : ℕ → List ℕ → Result (List Command) ScriptFault
script_from n bytes = closed (steps n empty_script (script_pieces (items_of bytes)))

abbrev pub script_or_fault : List ℕ → Result (List Command) ScriptFault
script_or_fault bytes = script_from 1 bytes

-- ---- results

abbrev pub StopsAs : ScriptStop → ScriptFault → Type 0
StopsAs (Fault line rule) fault = fault ≡ record { line = line; rule = rule }
StopsAs Memory fault = Unit {0}

abbrev pub stop_fault : ScriptStop → Option ScriptFault
stop_fault (Fault line rule) = Some (record { line = line; rule = rule })
stop_fault Memory = None

abbrev pub StepsAs : Result (Unit {0}) ScriptStop → Script → Result Script ScriptFault → Type 0
StepsAs result new expected = AnswersBy (λ _. new) stop_fault result expected

abbrev pub OpAs : Result Op ScriptStop → Result Op ScriptFault → Type 0
OpAs result expected = AnswersBy (λ op. op) stop_fault result expected

abbrev pub CommandsAs : Result (List Command) ScriptStop → Result (List Command) ScriptFault → Type 0
CommandsAs result expected = AnswersBy (λ commands. commands) stop_fault result expected
