use Rattle.std.proofs.Common.{◌-◌, ◌≤◌, ◌++◌, drop, take}
use Rattle.release_rows.specs.Patches.{LeadsBack}
use Rattle.release_rows.specs.Releases.{files_now, files_next}
use Rattle.release_rows.proofs.patch.way_back.Given as goal

-- the patch leads back to the items now of the files so far
abbrev pub invariant-files : goal.invariant-files
invariant-files l = record {
  within : l.at ≤ 9;
  leads : LeadsBack l.patch (files_next l.files) (take l.at (files_now l.files) ++ drop l.at (files_next l.files));
}

abbrev pub decreases-files : goal.decreases-files
decreases-files l = 9 - l.at
