use Rattle.std.proofs.Common.{◌≡◌, ◌+◌, ◌≤◌, ◌++◌, drop, length, take}
use Rattle.release_rows.proofs.back.take_out_all.Given as goal

-- without those that are left, the items are what is asked
abbrev pub invariant-items : goal.invariant-items
invariant-items l = record {
  file : l.items.file ≡ l.fn.items.file;
  now : l.items.now ≡ l.fn.items.now;
  within : l.at + l.left ≤ length l.items.next;
  so_far : take l.at l.items.next ++ drop (l.at + l.left) l.items.next ≡ take l.at l.fn.items.next ++ drop (l.at + l.fn.count) l.fn.items.next;
}

abbrev pub decreases-items : goal.decreases-items
decreases-items l = l.left
