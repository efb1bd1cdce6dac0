use Rattle.std.proofs.Common.{◌≡◌, ◌-◌, ◌≤◌, drop, length, map, take}
use Rattle.ucd_points.specs.SourceFiles.{source_files}
use Rattle.release_rows.specs.Patches.{back, patch_spans, IsDefined}
use Rattle.release_rows.specs.Releases.{files_now, files_next}
use Rattle.release_rows.proofs.back.undo_all.Given as goal

-- the splices that are left lead where all lead
abbrev pub invariant-splices : goal.invariant-splices
invariant-splices l = record {
  within : l.done ≤ length l.patch;
  files : map (λ lists. lists.file) l.files ≡ source_files;
  now : files_now l.files ≡ files_now l.fn.files;
  defined : IsDefined (drop l.done l.patch) (files_next l.files);
  leads : back (drop l.done l.patch) (files_next l.files) ≡ back l.patch (files_next l.fn.files);
  spans : l.spans ≡ patch_spans (take l.done l.patch);
}

abbrev pub decreases-splices : goal.decreases-splices
decreases-splices l = length l.patch - l.done
