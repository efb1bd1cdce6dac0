use Rattle.std.proofs.Common.{◌≡◌, ℕ, ◌+◌, ◌<◌, ◌≤◌, drop, count_by}
use Rattle.ucd_points.specs.Fields.{field, is_semicolon}
use Rattle.source_rows.specs.Fields.{fields_of}
use Rattle.source_rows.proofs.fields.behind_fields.Given as goal

-- of the text from i on as many fields are left to be passed over, behind as many separators as were passed
abbrev pub invariant-loop-i : goal.invariant-loop-i
invariant-loop-i l = record {
  left : 0 < l.left;
  most : l.left ≤ l.count;
  others : (n : ℕ) → field (fields_of l.text) (n + l.count) ≡ field (fields_of (drop l.i l.text)) (n + l.left);
  fewer : count_by is_semicolon l.text + l.left ≡ count_by is_semicolon (drop l.i l.text) + l.count;
}
