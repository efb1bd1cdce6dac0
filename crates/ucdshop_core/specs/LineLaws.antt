-- The line of a refusal is the one that an editor shows.
-- line_feeds pieces    how many LFs are among the bytes of the pieces
-- LinesAreCounted      the pieces above a piece of a file have as many lines as LFs are among their bytes, so that the number of its
--                      first line is one more than the LFs before it
use Rattle.std.specs.Prelude.{◌≡◌, ℕ, List, ◌∷◌, ◌++◌, map, count_by, flat_map}
use Rattle.ucd_points.specs.Lines.{is_lf, items_of}
use Rattle.release_rows.specs.FileItems.{lines_of, SourceFile}
use Rattle.release_rows.specs.Loading.{file_item}
use Rattle.release_rows.specs.Pieces.{Lines, pieces, piece_bytes}

abbrev pub line_feeds : List Lines → ℕ
line_feeds ps = count_by is_lf (flat_map piece_bytes ps)

abbrev pub LinesAreCounted : Type 0
LinesAreCounted = (file : SourceFile) (bytes : List ℕ) (above : List Lines) (piece : Lines) (below : List Lines)
    → pieces file (items_of bytes) ≡ above ++ piece ∷ below → lines_of (map (file_item file) above) ≡ line_feeds above
