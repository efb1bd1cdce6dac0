use Rattle.std.proofs.Common.{◌≡◌, ◌^◌, ◌<◌, take}
use Rattle.ucd_points.specs.Fields.{decimal_number}
use Rattle.source_rows.proofs.data_values.decimal_number.Given as goal

-- the number that the digits so far write
abbrev pub invariant-loop-byte : goal.invariant-loop-byte
invariant-loop-byte l = (l.number ≡ decimal_number (take l.byte-index l.digits)) × (l.number < 10 ^ l.byte-index)
