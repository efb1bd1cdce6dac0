use Rattle.std.proofs.Common.{◌≡◌, length}
use Rattle.ucd_points.specs.Fields.{field}
use Rattle.release_rows.proofs.tag.field_at.Given as goal

-- the field is the one behind as many as are left
abbrev pub invariant-fields : goal.invariant-fields
invariant-fields l = field l.fields l.left ≡ field l.initial.fields l.number

abbrev pub decreases-fields : goal.decreases-fields
decreases-fields l = length l.fields
