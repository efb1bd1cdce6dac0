use Rattle.std.proofs.Common.{◌≡◌, take}
use Rattle.std.specs.List.{list_all}
use Rattle.ucd_points.specs.Fields.{is_name_byte}
use Rattle.source_rows.proofs.code_point.are_name_bytes.Given as goal

-- the bytes before this one may
abbrev pub invariant-bytes : goal.invariant-bytes
invariant-bytes l = l.all ≡ list_all is_name_byte (take l.byte-index l.text)
