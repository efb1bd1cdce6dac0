use Rattle.std.proofs.Common.{◌≡◌, ◌++◌, take, flat_map}
use Rattle.ucd_model.specs.Records.{kept_record}
use Rattle.record_lines.specs.RecordTexts.{file_changes}
use Rattle.record_lines.proofs.change.put_changes.Given as goal

-- the files so far
abbrev pub invariant-files : goal.invariant-files
invariant-files l = l.text ≡ l.initial.text ++ flat_map (file_changes l.fn.point (kept_record l.before) (kept_record l.after)) (take l.file-index l.file-items)
