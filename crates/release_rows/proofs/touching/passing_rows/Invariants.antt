use Rattle.std.proofs.Common.{◌≡◌, ◌++◌, length, map, All}
use Rattle.release_rows.specs.FileItems.{rows_in}
use Rattle.release_rows.specs.StoredItems.{stored_at, IsStored}
use Rattle.release_rows.proofs.touching.passing_rows.Given as goal

-- the rows so far and those of the items that are left are all
abbrev pub invariant-items : goal.invariant-items
invariant-items l = record {
  each : All (IsStored l.file l.text) l.items;
  so_far : l.rows.items ++ rows_in (map (stored_at l.file l.text) l.items) ≡ rows_in (map (stored_at l.file l.text) l.fn.items);
}

abbrev pub decreases-items : goal.decreases-items
decreases-items l = length l.items
