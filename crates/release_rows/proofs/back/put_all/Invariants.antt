use Rattle.std.proofs.Common.{◌≡◌, ◌≤◌, ◌++◌, drop, length, map, take}
use Rattle.release_rows.specs.StoredItems.{stored_at}
use Rattle.release_rows.proofs.back.put_all.Given as goal

-- all but those that are left are put in
abbrev pub invariant-items : goal.invariant-items
invariant-items l = record {
  file : l.items.file ≡ l.fn.items.file;
  now : l.items.now ≡ l.fn.items.now;
  within : l.left ≤ length l.entries;
  gap : l.at ≤ length l.items.next;
  so_far : l.items.next ≡ take l.at l.fn.items.next ++ map (stored_at l.fn.items.file l.from) (drop l.left l.entries) ++ drop l.at l.fn.items.next;
}

abbrev pub decreases-items : goal.decreases-items
decreases-items l = l.left
