use Rattle.std.proofs.Common.{IsTrue, vec_len, ◌-◌, ◌≤◌, take}
use Rattle.std.specs.Io.KnownBytes.{Consumes}
use Rattle.shelf_io.specs.Systems.{SameEntries}
use Rattle.shelf_io.proofs.transfer.read_most.Given as goal

-- what was read stands at the front of the buffer, which is no longer than what is asked for
abbrev pub invariant-chunks : goal.invariant-chunks
invariant-chunks g l = record {
  filled : l.filled ≤ vec_len l.into;
  at_most : vec_len l.into ≤ l.most;
  bytes : Consumes (g.S.Opened.Read.remaining l.initial.file) (g.S.Opened.Read.remaining l.file) (take l.filled l.into.items);
  stays : IsTrue g.S.System.tells → SameEntries (g.S.System.at l.initial.system) (g.S.System.at l.system);
  faults : g.S.System.faults l.initial.system ≤ g.S.System.faults l.system;
}

abbrev pub decreases-chunks : goal.decreases-chunks
decreases-chunks g l = l.most - l.filled
