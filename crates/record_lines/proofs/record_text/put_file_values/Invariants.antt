use Rattle.std.proofs.Common.{◌≡◌, ◌++◌, take, flat_map}
use Rattle.ucd_model.specs.Records.{kept_record}
use Rattle.record_lines.specs.RecordTexts.{value_line}
use Rattle.record_lines.proofs.record_text.put_file_values.Given as goal

-- the lines so far
abbrev pub invariant-listings : goal.invariant-listings
invariant-listings l = l.text ≡ l.initial.text ++ flat_map (value_line (kept_record l.shown)) (take l.listing-index l.listing-items)
