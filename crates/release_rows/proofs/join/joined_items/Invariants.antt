use Rattle.std.proofs.Common.{◌≡◌, ◌++◌, length, map, All}
use Rattle.release_rows.specs.FileItems.{bytes_of}
use Rattle.release_rows.specs.StoredItems.{stored_at, IsStored}
use Rattle.release_rows.proofs.join.joined_items.Given as goal

-- the bytes so far and the items that are left, put together, are all
abbrev pub invariant-items : goal.invariant-items
invariant-items l = record {
  each : All (IsStored l.file l.text) l.items;
  so_far : l.bytes ++ bytes_of (map (stored_at l.file l.text) l.items) ≡ bytes_of (map (stored_at l.file l.text) l.fn.items);
}

abbrev pub decreases-items : goal.decreases-items
decreases-items l = length l.items
