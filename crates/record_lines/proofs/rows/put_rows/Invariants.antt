use Rattle.std.proofs.Common.{◌≡◌, take, map, flat_map}
use Rattle.release_rows.specs.Releases.{items_now}
use Rattle.record_lines.specs.PointTexts.{with_more}
use Rattle.record_lines.specs.RowLines.{file_rows_text}
use Rattle.record_lines.proofs.rows.put_rows.Given as goal

-- the rows of the files so far
abbrev pub invariant-files : goal.invariant-files
invariant-files l = l.told ≡ map (with_more (λ c. flat_map (λ file. file_rows_text (items_now l.release file) file c) (take l.file-index l.file-items))) l.initial.told
