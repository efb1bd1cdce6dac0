-- A file of scripts between marks. A mark is a line that begins with `@`.
-- is_mark line            the line begins with `@`; an empty one does not
-- Marked                  a mark, the number of its line, and the lines behind it up to the next mark
-- Cut                     the lines before the first mark, and the marks with the lines behind them
-- cut n lines             the lines cut before each mark; the first of them has the number n
-- cut_lines cut           the lines of all pieces, in order
-- Mark                    the number of its line, and its content
-- Piece                   the mark that it stands behind, None for what stands before the first; the number of its first line; and
--                         its bytes, those of the lines up to the next mark
-- marked_piece marked     the piece behind a mark
-- cut_pieces mark n cut   what stands before the first mark, as a piece behind this mark, and the pieces behind the others
-- pieces_from mark n lines   the pieces of these lines, which stand behind this mark; the first of them has the number n
-- pieces bytes            the pieces of a file: what stands before the first mark, which may have no bytes, and a piece for each mark
-- PiecesAreWhole          marks and pieces together are the bytes of the file, in order
-- FitsBelow n piece       the number of its first line and its bytes are together at most n
-- PieceLineNumbersFit               so it is of each piece of a file, with one more than the bytes of the file
-- PiecesAreFew            a file has at most one piece more than bytes
use Rattle.std.specs.Prelude.{◌≡◌, ◌≤◌, ℕ, ◌+◌, Bool, false, List, [], ◌∷◌, ◌++◌, length, map, Option, Some, None, ◌==◌, if◌then◌else◌, All, flat_map}
use Rattle.ucd_points.specs.Lines.{LineItem, items_of, joined}

abbrev pub begins_mark : List ℕ → Bool
begins_mark [] = false
begins_mark (b ∷ _) = b == 64

abbrev pub is_mark : LineItem → Bool
is_mark line = begins_mark line.content

-- ---- lines, cut before each mark

pub record Marked : Type 0 where
  pub number : ℕ
  pub mark : LineItem
  pub lines : List LineItem

pub record Cut : Type 0 where
  pub front : List LineItem
  pub marked : List Marked

abbrev pub cut_before : ℕ → LineItem → Cut → Cut
cut_before n line behind =
    if is_mark line then record { front = []; marked = record { number = n; mark = line; lines = behind.front } ∷ behind.marked }
    else record { front = line ∷ behind.front; marked = behind.marked }

abbrev pub cut : ℕ → List LineItem → Cut
cut n [] = record { front = []; marked = [] }
cut n (line ∷ lines) = cut_before n line (cut (n + 1) lines)

abbrev pub cut_lines : Cut → List LineItem
cut_lines it = it.front ++ flat_map (λ piece. piece.mark ∷ piece.lines) it.marked

-- ---- pieces

pub record Mark : Type 0 where
  pub line : ℕ
  pub content : List ℕ

pub record Piece : Type 0 where
  pub mark : Option Mark
  pub first_line : ℕ
  pub body : List ℕ

abbrev pub mark_of : Marked → Mark
mark_of marked = record { line = marked.number; content = marked.mark.content }

abbrev pub marked_piece : Marked → Piece
marked_piece marked = record { mark = Some (mark_of marked); first_line = marked.number + 1; body = joined marked.lines }

abbrev pub cut_pieces : Option Mark → ℕ → Cut → List Piece
cut_pieces mark n it = record { mark = mark; first_line = n; body = joined it.front } ∷ map marked_piece it.marked

abbrev pub pieces_from : Option Mark → ℕ → List LineItem → List Piece
pieces_from mark n lines = cut_pieces mark n (cut n lines)

abbrev pub pieces : List ℕ → List Piece
pieces bytes = pieces_from None 1 (items_of bytes)

-- ---- laws

abbrev pub PiecesAreWhole : Type 0
PiecesAreWhole = (n : ℕ) (bytes : List ℕ) → joined (cut_lines (cut n (items_of bytes))) ≡ bytes

abbrev pub FitsBelow : ℕ → Piece → Type 0
FitsBelow n piece = piece.first_line + length piece.body ≤ n

abbrev pub PieceLineNumbersFit : Type 0
PieceLineNumbersFit = (bytes : List ℕ) → All (FitsBelow (1 + length bytes)) (pieces bytes)

abbrev pub PiecesAreFew : Type 0
PiecesAreFew = (bytes : List ℕ) → length (pieces bytes) ≤ 1 + length bytes
