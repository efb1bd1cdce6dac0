-- The pieces of the code, as the definitions name them.
-- mark_of mark            the mark: the number of its line, and its content
-- piece_of piece          the piece: its mark, the number of its first line, and its bytes
-- left head               the pieces that are left behind a head: its mark, the number of the line behind it, and the text from there
--                         on; none where there is no head
-- FitsIn n head           the number of that line and the bytes from there on are together less than n
use Rattle.std.specs.Prelude.{ℕ, ◌+◌, ◌<◌, List, [], length, Option, Some, None, ⊤, option_map}
use Rattle.ucd_points.specs.Lines.{items_of}
use Rattle.script_pieces.specs.Pieces.{Mark, Piece, pieces_from}
use Rattle.script_pieces.specs.declared.piece.Mark.{Mark as MarkRead}
use Rattle.script_pieces.specs.declared.piece.Piece.{Piece as PieceRead}
use Rattle.script_pieces.specs.declared.pieces.Head.{Head}

abbrev pub mark_of : MarkRead → Mark
mark_of mark = record { line = mark.line; content = mark.content.now }

abbrev pub piece_of : PieceRead → Piece
piece_of piece = record { mark = option_map mark_of piece.mark; first_line = piece.first_line; body = piece.body.now }

abbrev pub left : Option Head → List Piece
left None = []
left (Some head) = pieces_from (option_map mark_of head.mark) head.first_line (items_of head.rest.now)

abbrev pub FitsIn : ℕ → Option Head → Type 0
FitsIn n None = ⊤
FitsIn n (Some head) = head.first_line + length head.rest.now < n
