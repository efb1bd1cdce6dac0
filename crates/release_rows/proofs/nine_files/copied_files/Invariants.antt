use Rattle.std.proofs.Common.{◌≡◌, ℕ, ◌-◌, ◌<◌, ◌≤◌, length, slice_index_or}
use Rattle.release_rows.specs.FileItems.{FileLists}
use Rattle.release_rows.proofs.nine_files.copied_files.Given as goal

-- the files so far are copied
abbrev pub invariant-files : goal.invariant-files
invariant-files l = record {
  within : l.at ≤ 9;
  count : length l.copies ≡ 9;
  so_far : (k : ℕ) (d : FileLists) → k < l.at → slice_index_or l.copies k d ≡ slice_index_or l.files k d;
}

abbrev pub decreases-files : goal.decreases-files
decreases-files l = 9 - l.at
