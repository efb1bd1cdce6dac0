use Rattle.std.proofs.Common.{◌≡◌, length, map}
use Rattle.release_rows.specs.Releases.{numbered_rows}
use Rattle.release_rows.specs.StoredItems.{stored_at}
use Rattle.release_rows.specs.Walking.{IsWalk}
use Rattle.release_rows.proofs.row_iter.RowsIterator.next.Given as goal

-- the rows of the items that are left are all the rows that are left
abbrev pub invariant-items : goal.invariant-items
invariant-items l = record {
  rows : numbered_rows l.self-inside.line (map (stored_at l.self-inside.file l.self-inside.text.now) l.self-inside.items) ≡ l.fn.self;
  walk : IsWalk l.self-inside.file l.self-inside.text.now l.self-inside.items l.self-inside.line;
}

abbrev pub decreases-items : goal.decreases-items
decreases-items l = length l.self-inside.items
