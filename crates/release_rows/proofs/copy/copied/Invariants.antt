use Rattle.std.proofs.Common.{◌-◌, ◌≤◌, length, take}
use Rattle.release_rows.specs.Back.{AreCopies, Grew}
use Rattle.release_rows.proofs.copy.copied.Given as goal

-- so many are copied
abbrev pub invariant-entries : goal.invariant-entries
invariant-entries l = record {
  within : l.done ≤ length l.entries;
  grew : Grew l.fn.into l.into;
  are : AreCopies l.file l.from (take l.done l.entries) l.into l.copies;
}

abbrev pub decreases-entries : goal.decreases-entries
decreases-entries l = length l.entries - l.done
