use Rattle.std.proofs.Common.{◌≡◌, ◌-◌, ◌≤◌, length, map, take}
use Rattle.part_list.specs.Parts.{flat, next_in}
use Rattle.release_rows.specs.Back.{LeadsOn, turned}
use Rattle.release_rows.specs.StoredItems.{stored_at}
use Rattle.release_rows.proofs.way_back.put_way_back.Given as goal

-- the patch leads on to the entries now of the parts so far
abbrev pub invariant-parts : goal.invariant-parts
invariant-parts l = record {
  within : l.slot ≤ length l.items.now;
  at : l.at ≡ length (flat (take l.slot l.items.now));
  leads : LeadsOn l.fn.patch l.patch l.file (map (stored_at l.file l.text) (next_in l.items)) (map (stored_at l.file l.text) (turned l.items l.slot));
}

abbrev pub decreases-parts : goal.decreases-parts
decreases-parts l = length l.items.now - l.slot
