use Rattle.std.proofs.Common.{◌≡◌, ◌-◌, ◌≤◌, ◌++◌, length, map, take}
use Rattle.release_rows.specs.Patches.{item_spans}
use Rattle.release_rows.specs.StoredItems.{stored_at}
use Rattle.release_rows.proofs.splice.put_spans.Given as goal

-- the spans of so many are put
abbrev pub invariant-entries : goal.invariant-entries
invariant-entries l = record {
  within : l.done ≤ length l.entries;
  so_far : l.spans ≡ l.fn.spans ++ item_spans (map (stored_at l.file l.text) (take l.done l.entries));
}

abbrev pub decreases-entries : goal.decreases-entries
decreases-entries l = length l.entries - l.done
