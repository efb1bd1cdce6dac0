use Rattle.std.proofs.Common.{◌≡◌, ◌^◌, ◌<◌, take, Some}
use Rattle.ucd_points.specs.Fields.{hex_number}
use Rattle.ucd_lines.proofs.code_point.hex_number.Given as goal

-- the number that the digits so far write
abbrev pub invariant-loop-byte : goal.invariant-loop-byte
invariant-loop-byte l = (hex_number (take l.byte-index l.digits) ≡ Some l.number) × (l.number < 16 ^ l.byte-index)
