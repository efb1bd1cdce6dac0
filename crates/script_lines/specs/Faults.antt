-- The first fault of a script.
-- fault_of p rule         the rule, with the number of the piece
-- is_group_line p         the line is `begin` or `end`
-- is_operation p          the line puts a row or takes one out
-- open_begin before       the `begin` of the group that is open behind these pieces: the last one that is `begin` or `end`, where that is a
--                         `begin`; else None
-- is_open before          a group is open behind them
-- operations before       the operations behind the last `begin` or `end`
-- is_full before          a group is open, and has 4,096 operations
-- found_fault found       the fault, where one was found in place of an operation
-- fault_at before p       the fault of a piece behind these: E1 where it is no command, or is an `end` and no group is open; E3 where it is a
--                         `begin` and one is; E4 where it is a question and one is; E5 where it is an operation and the group is full; E6 where it is an operation with a
--                         fault; else None
-- NoFault pieces          no piece has a fault behind the ones before it
-- FirstFault pieces f     a piece has this fault behind the ones before it, and of those none has one
-- Unclosed pieces f       no piece has a fault, and a group is open behind them all: E2, at its `begin`
-- FaultsAreFirst          a script is refused exactly by its first fault, or by E2 where it has no other
use Rattle.std.specs.Prelude.{◌≡◌, ◌⊎◌, ◌↔◌, ℕ, Bool, true, false, ◌&&◌, List, ◌∷◌, ◌++◌, length, reverse, find, filter, Option, Some, None, is_some, Result, Ok, Err, ◌==◌, if◌then◌else◌}
use Rattle.std.specs.List.{after_last}
use Rattle.release_rows.specs.declared.operation.Op.{Op}
use Rattle.script_lines.specs.Grammar.{NumberedPiece, numbered_pieces}
use Rattle.script_lines.specs.Lines.{Said, nothing, begins, ends, asks, puts, withdraws, no_command, said}
use Rattle.script_lines.specs.Scripts.{ScriptFault, row_op, key_op, script_from}
use Rattle.script_lines.specs.declared.stop.ScriptRule.{ScriptRule}
use Rattle.script_lines.specs.declared.stop.ScriptRule.TheVariants.{E1, E2, E3, E4, E5}

abbrev pub fault_of : NumberedPiece → ScriptRule → ScriptFault
fault_of p rule = record { line = p.number; rule = rule }

-- ---- what is open

abbrev pub says_begin : Said → Bool
says_begin begins = true
says_begin _ = false

abbrev pub says_group_line : Said → Bool
says_group_line begins = true
says_group_line ends = true
says_group_line _ = false

abbrev pub says_operation : Said → Bool
says_operation (puts put file text) = true
says_operation (withdraws file text) = true
says_operation _ = false

abbrev pub is_group_line : NumberedPiece → Bool
is_group_line p = says_group_line (said p.piece.line)

abbrev pub is_operation : NumberedPiece → Bool
is_operation p = says_operation (said p.piece.line)

abbrev pub begin_in : Option NumberedPiece → Option NumberedPiece
begin_in (Some p) = if says_begin (said p.piece.line) then Some p else None
begin_in None = None

abbrev pub open_begin : List NumberedPiece → Option NumberedPiece
open_begin before = begin_in (find is_group_line (reverse before))

abbrev pub is_open : List NumberedPiece → Bool
is_open before = is_some (open_begin before)

abbrev pub operations : List NumberedPiece → List NumberedPiece
operations before = filter is_operation (after_last is_group_line before)

abbrev pub is_full : List NumberedPiece → Bool
is_full before = is_open before && (length (operations before) == 4096)

-- ---- faults

abbrev pub found_fault : Result Op ScriptFault → Option ScriptFault
found_fault (Ok op) = None
found_fault (Err fault) = Some fault

abbrev pub fault_by : List NumberedPiece → NumberedPiece → Said → Option ScriptFault
fault_by before p nothing = None
fault_by before p begins = if is_open before then Some (fault_of p E3) else None
fault_by before p ends = if is_open before then None else Some (fault_of p E1)
fault_by before p (asks text) = if is_open before then Some (fault_of p E4) else None
fault_by before p (puts put file text) = if is_full before then Some (fault_of p E5) else found_fault (row_op p.number put file text p.piece.next)
fault_by before p (withdraws file text) = if is_full before then Some (fault_of p E5) else found_fault (key_op p.number file text)
fault_by before p no_command = Some (fault_of p E1)

abbrev pub fault_at : List NumberedPiece → NumberedPiece → Option ScriptFault
fault_at before p = fault_by before p (said p.piece.line)

abbrev pub NoFault : List NumberedPiece → Type 0
NoFault pieces = (before : List NumberedPiece) (p : NumberedPiece) (rest : List NumberedPiece) → pieces ≡ before ++ p ∷ rest → fault_at before p ≡ None

pub record FirstFault (pieces : List NumberedPiece) (fault : ScriptFault) : Type 0 where
  pub before : List NumberedPiece
  pub piece : NumberedPiece
  pub rest : List NumberedPiece
  pub cut : pieces ≡ before ++ piece ∷ rest
  pub none_before : NoFault before
  pub is : fault_at before piece ≡ Some fault

pub record Unclosed (pieces : List NumberedPiece) (fault : ScriptFault) : Type 0 where
  pub none : NoFault pieces
  pub opening : NumberedPiece
  pub begin : open_begin pieces ≡ Some opening
  pub is : fault ≡ fault_of opening E2

abbrev pub FaultsAreFirst : Type 0
FaultsAreFirst = (n : ℕ) (bytes : List ℕ) (fault : ScriptFault) → (script_from n bytes ≡ Err fault) ↔ (FirstFault (numbered_pieces n bytes) fault ⊎ Unclosed (numbered_pieces n bytes) fault)
