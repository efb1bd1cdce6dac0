use Rattle.std.proofs.Common.{IsTrue, length, ◌-◌, ◌≤◌, take}
use Rattle.std.specs.Io.KnownBytes.{Appends}
use Rattle.shelf_io.specs.Systems.{SameEntries}
use Rattle.shelf_io.proofs.transfer.write_whole.Given as goal

-- the bytes in front of `done` were written
abbrev pub invariant-rests : goal.invariant-rests
invariant-rests g l = record {
  done : l.done ≤ length l.bytes;
  written : Appends (g.S.Created.Write.contents l.initial.file) (g.S.Created.Write.contents l.file) (take l.done l.bytes);
  stays : IsTrue g.S.System.tells → SameEntries (g.S.System.at l.initial.system) (g.S.System.at l.system);
  faults : g.S.System.faults l.initial.system ≤ g.S.System.faults l.system;
}

abbrev pub decreases-rests : goal.decreases-rests
decreases-rests g l = length l.bytes - l.done
