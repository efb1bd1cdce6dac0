use Rattle.std.proofs.Common.{length, ◌-◌, ◌≤◌, take}
use Rattle.std.specs.Io.KnownBytes.{Appends}
use Rattle.shelf_io.proofs.transfer.write_all.Given as goal

-- the bytes in front of `done` were written
abbrev pub invariant-rests : goal.invariant-rests
invariant-rests g l = record {
  done : l.done ≤ length l.bytes;
  written : Appends (g.F.Write.contents l.initial.file) (g.F.Write.contents l.file) (take l.done l.bytes);
}

abbrev pub decreases-rests : goal.decreases-rests
decreases-rests g l = length l.bytes - l.done
