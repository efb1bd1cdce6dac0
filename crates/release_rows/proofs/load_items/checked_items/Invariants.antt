use Rattle.std.proofs.Common.{◌≡◌, ◌+◌, ◌≤◌, ◌++◌, length}
use Rattle.ucd_points.specs.Lines.{joined}
use Rattle.release_rows.specs.Pieces.{pieces}
use Rattle.release_rows.specs.FileItems.{bytes_of, lines_of, rows_in}
use Rattle.release_rows.specs.Loaders.{IsSound, items_above}
use Rattle.release_rows.specs.Loading.{items_or_fault, file_or_fault}
use Rattle.release_rows.specs.Progress.{HoldsRows}
use Rattle.release_rows.proofs.load_items.checked_items.Given as goal

-- the items so far and the pieces that are left give what the whole gives, and stand in the text one behind the other
abbrev pub invariant-pieces : goal.invariant-pieces
invariant-pieces l = record {
  sound : IsSound l.loading;
  keys : HoldsRows l.file (rows_in (items_above l.loading)) l.keys;
  file : l.loading.file ≡ l.file;
  text : l.loading.text.now ≡ l.fn.bytes;
  whole : items_or_fault l.file (items_above l.loading) (pieces l.file l.lines) ≡ file_or_fault l.file l.fn.bytes;
  stands : bytes_of (items_above l.loading) ++ joined l.lines ≡ l.fn.bytes;
  fits : lines_of (items_above l.loading) + length l.lines ≤ length l.fn.bytes;
}

abbrev pub decreases-pieces : goal.decreases-pieces
decreases-pieces l = length l.lines
