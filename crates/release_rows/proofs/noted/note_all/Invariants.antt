use Rattle.std.proofs.Common.{length, map, All}
use Rattle.part_list.specs.SeenNumbers.{Grows}
use Rattle.part_list.specs.declared.seen_numbers.SeenNumbers.{SeenNumbers}
use Rattle.release_rows.specs.Noted.{AreNoted}
use Rattle.release_rows.specs.StoredItems.{IsStored, stored_at}
use Rattle.release_rows.proofs.noted.note_all.Given as goal

-- if the groups of the entries that are left are noted too, all are
abbrev pub invariant-entries : goal.invariant-entries
invariant-entries l = record {
  each : All (IsStored l.file l.text) l.entries;
  so_far : (later : SeenNumbers) → Grows l.seen_hashes later → AreNoted l.file later (map (stored_at l.file l.text) l.entries) → AreNoted l.file later (map (stored_at l.file l.text) l.fn.entries);
  grows : Grows l.fn.seen_hashes l.seen_hashes;
}

abbrev pub decreases-entries : goal.decreases-entries
decreases-entries l = length l.entries
