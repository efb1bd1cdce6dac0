-- The pieces of the code, as the definitions name them.
-- piece_of p    the lines of a piece: its first one, and the next where it has one
use Rattle.std.specs.Option.{option_map}
use Rattle.script_lines.specs.Scripts.{ScriptPiece}
use Rattle.script_lines.specs.declared.piece.Piece.{Piece}

abbrev pub piece_of : Piece → ScriptPiece
piece_of p = record { line = p.line.now; next = option_map (λ n. n.now) p.next }
