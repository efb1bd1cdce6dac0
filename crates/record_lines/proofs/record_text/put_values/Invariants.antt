use Rattle.std.proofs.Common.{◌≡◌, ◌++◌, take, flat_map}
use Rattle.ucd_model.specs.Records.{kept_record}
use Rattle.record_lines.specs.RecordTexts.{file_values}
use Rattle.record_lines.proofs.record_text.put_values.Given as goal

-- the files so far
abbrev pub invariant-files : goal.invariant-files
invariant-files l = l.text ≡ l.initial.text ++ flat_map (file_values (kept_record l.shown)) (take l.file-index l.file-items)
