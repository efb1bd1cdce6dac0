-- The commands that a script holds.
-- NumberedPiece              a piece, and the number of its first line
-- numbered n pieces          the pieces with their numbers; n is that of the first one
-- numbered_pieces n bytes    the pieces of a script; n is the number of its first line
-- SaysOp piece op            the piece is this operation: it puts a row that its bytes are read as, or takes out the row of a key that its
--                            text stands for
-- AreOps pieces ops          the pieces are passed over or are operations, and these are the operations, in order
--   nothing_inside             no pieces
--   passed_inside              a blank line or a comment, and then such pieces
--   one_inside                 an operation, and then such pieces
-- IsScript pieces commands   the pieces are a script, and these are its commands, in order
--   nothing_left               no pieces
--   passed                     a blank line or a comment, and then a script
--   alone                      an operation, which is a group of its own, and then a script
--   asking                     a question, and then a script
--   grouped                    `begin`, at most 4,096 operations, `end`, and then a script; the group's line is that of `begin`
-- ScriptsAreRead             commands are given exactly where the pieces are a script that has them; so no script has two lists of them
use Rattle.std.specs.Prelude.{◌≡◌, ◌↔◌, ℕ, ◌+◌, ◌≤◌, List, [], ◌∷◌, ◌++◌, length, Option, Ok}
use Rattle.ucd_points.specs.Lines.{items_of}
use Rattle.ucd_facts.specs.Grammar.{Reads}
use Rattle.ucd_facts.specs.declared.row.Row.{Row}
use Rattle.source_rows.specs.KeyGrammar.{ReadsKey}
use Rattle.source_rows.specs.declared.key.Key.{Key}
use Rattle.release_rows.specs.declared.operation.Op.{Op}
use Rattle.release_rows.specs.declared.operation.Op.TheVariants.{Withdraw as WithdrawRow}
use Rattle.script_lines.specs.Lines.{Said, nothing, begins, ends, asks, puts, withdraws, said}
use Rattle.script_lines.specs.Scripts.{ScriptPiece, script_pieces, piece_lines, row_text, op_of, one_group, question, script_from}
use Rattle.script_lines.specs.declared.command.Command.{Command}

pub record NumberedPiece : Type 0 where
  pub number : ℕ
  pub piece : ScriptPiece

abbrev pub numbered : ℕ → List ScriptPiece → List NumberedPiece
numbered n [] = []
numbered n (piece ∷ pieces) = record { number = n; piece = piece } ∷ numbered (n + piece_lines piece) pieces

abbrev pub numbered_pieces : ℕ → List ℕ → List NumberedPiece
numbered_pieces n bytes = numbered n (script_pieces (items_of bytes))

-- ---- operations

abbrev pub SaysOpBy : Option (List ℕ) → Said → Op → Type 0
SaysOpBy next (puts put file text) op = (row : Row) × Reads file (row_text text next) row × (op ≡ op_of put file row (row_text text next))
SaysOpBy next (withdraws file text) op = (key : Key) × ReadsKey file text key × (op ≡ WithdrawRow file key)
SaysOpBy next _ op = ⊥

abbrev pub SaysOp : ScriptPiece → Op → Type 0
SaysOp piece op = SaysOpBy piece.next (said piece.line) op

pub data AreOps : List NumberedPiece → List Op → Type 0 where
  nothing_inside : AreOps [] []
  passed_inside : {p : NumberedPiece} {ps : List NumberedPiece} {ops : List Op} → said p.piece.line ≡ nothing → AreOps ps ops → AreOps (p ∷ ps) ops
  one_inside : {p : NumberedPiece} {ps : List NumberedPiece} {op : Op} {ops : List Op} → SaysOp p.piece op → AreOps ps ops → AreOps (p ∷ ps) (op ∷ ops)

-- ---- scripts

pub data IsScript : List NumberedPiece → List Command → Type 0 where
  nothing_left : IsScript [] []
  passed : {p : NumberedPiece} {ps : List NumberedPiece} {commands : List Command} → said p.piece.line ≡ nothing → IsScript ps commands → IsScript (p ∷ ps) commands
  alone : {p : NumberedPiece} {ps : List NumberedPiece} {op : Op} {commands : List Command} → SaysOp p.piece op → IsScript ps commands → IsScript (p ∷ ps) (one_group p.number (op ∷ []) ∷ commands)
  asking : {p : NumberedPiece} {ps : List NumberedPiece} {commands : List Command} (text : List ℕ) → said p.piece.line ≡ asks text → IsScript ps commands → IsScript (p ∷ ps) (question p.number text ∷ commands)
  grouped : (opening closing : NumberedPiece) (inside rest : List NumberedPiece) (ops : List Op) (commands : List Command)
      → said opening.piece.line ≡ begins → AreOps inside ops → length ops ≤ 4096 → said closing.piece.line ≡ ends → IsScript rest commands
      → IsScript (opening ∷ inside ++ closing ∷ rest) (one_group opening.number ops ∷ commands)

abbrev pub ScriptsAreRead : Type 0
ScriptsAreRead = (n : ℕ) (bytes : List ℕ) (commands : List Command) → (script_from n bytes ≡ Ok commands) ↔ IsScript (numbered_pieces n bytes) commands
