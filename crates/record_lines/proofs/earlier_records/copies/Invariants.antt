use Rattle.std.proofs.Common.{◌≡◌, map, take}
use Rattle.ucd_model.specs.Records.{kept_record}
use Rattle.record_lines.proofs.earlier_records.copies.Given as goal

-- the records so far
abbrev pub invariant-points : goal.invariant-points
invariant-points g l = map kept_record l.records.items ≡ map (g.B.Records.record_of l.bench) (take l.point-index l.points)
