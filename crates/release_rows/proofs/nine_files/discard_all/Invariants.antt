use Rattle.std.proofs.Common.{◌≡◌, ◌-◌, ◌≤◌, ◌++◌, take, drop, map}
use Rattle.release_rows.specs.Releases.{discarded}
use Rattle.release_rows.proofs.nine_files.discard_all.Given as goal

-- the files so far are done
abbrev pub invariant-files : goal.invariant-files
invariant-files l = record {
  within : l.at ≤ 9;
  so_far : l.files ≡ map discarded (take l.at l.fn.files) ++ drop l.at l.fn.files;
}

abbrev pub decreases-files : goal.decreases-files
decreases-files l = 9 - l.at
