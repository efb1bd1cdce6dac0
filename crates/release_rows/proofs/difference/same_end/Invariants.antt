use Rattle.std.proofs.Common.{◌≡◌, ◌-◌, ◌≤◌, ℕ, List, length, map, drop}
use Rattle.ucd_points.specs.declared.files.SourceFile.{SourceFile}
use Rattle.release_rows.specs.StoredItems.{stored_at}
use Rattle.release_rows.proofs.difference.same_end.Given as goal

-- so many are the same
abbrev pub invariant-items : goal.invariant-items
invariant-items l = record {
  now : l.count ≤ length l.now;
  next : l.count ≤ length l.next;
  same : (file : SourceFile) (text : List ℕ) → drop (length l.now - l.count) (map (stored_at file text) l.now) ≡ drop (length l.next - l.count) (map (stored_at file text) l.next);
}

abbrev pub decreases-items : goal.decreases-items
decreases-items l = length l.now - l.count
