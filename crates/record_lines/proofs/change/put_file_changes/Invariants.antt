use Rattle.std.proofs.Common.{◌≡◌, ◌++◌, take, flat_map}
use Rattle.ucd_model.specs.Records.{kept_record}
use Rattle.record_lines.specs.RecordTexts.{change_line}
use Rattle.record_lines.proofs.change.put_file_changes.Given as goal

-- the lines so far
abbrev pub invariant-listings : goal.invariant-listings
invariant-listings l = l.text ≡ l.initial.text ++ flat_map (change_line l.fn.point (kept_record l.before) (kept_record l.after)) (take l.listing-index l.listing-items)
