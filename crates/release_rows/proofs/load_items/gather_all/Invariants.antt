use Rattle.std.proofs.Common.{◌≡◌, ◌+◌, ◌≤◌, ◌++◌, length, map}
use Rattle.ucd_points.specs.Lines.{items_of, joined}
use Rattle.release_rows.specs.Pieces.{pieces}
use Rattle.release_rows.specs.FileItems.{bytes_of, lines_of, rows_in}
use Rattle.release_rows.specs.Gathered.{AreGathered}
use Rattle.release_rows.specs.Loaders.{IsSound, items_above}
use Rattle.release_rows.specs.Loading.{file_item}
use Rattle.release_rows.proofs.load_items.gather_all.Given as goal

-- the items so far and those of the pieces that are left are those of the whole, and stand in the text one behind the other
abbrev pub invariant-pieces : goal.invariant-pieces
invariant-pieces l = record {
  sound : IsSound l.loading;
  rows : AreGathered l.file (rows_in (items_above l.loading)) l.rows.items;
  file : l.loading.file ≡ l.file;
  text : l.loading.text.now ≡ l.fn.bytes;
  whole : items_above l.loading ++ map (file_item l.file) (pieces l.file l.lines) ≡ map (file_item l.file) (pieces l.file (items_of l.fn.bytes));
  stands : bytes_of (items_above l.loading) ++ joined l.lines ≡ l.fn.bytes;
  fits : lines_of (items_above l.loading) + length l.lines ≤ length l.fn.bytes;
}

abbrev pub decreases-pieces : goal.decreases-pieces
decreases-pieces l = length l.lines
