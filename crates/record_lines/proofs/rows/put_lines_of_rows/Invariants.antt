use Rattle.std.proofs.Common.{◌≡◌, map, length}
use Rattle.ucd_points.specs.Lines.{contents}
use Rattle.record_lines.specs.PointTexts.{with_more}
use Rattle.record_lines.specs.RowLines.{rows_lines}
use Rattle.record_lines.proofs.rows.put_lines_of_rows.Given as goal

-- what is told so far, with the rows that are left
abbrev pub invariant-rows : goal.invariant-rows
invariant-rows l = record {
  told : map (with_more (rows_lines l.fn.file (contents l.fn.bytes) l.left)) l.told ≡ map (with_more (rows_lines l.fn.file (contents l.fn.bytes) l.fn.rows)) l.initial.told;
  lines : l.lines.lines ≡ contents l.fn.bytes;
}

abbrev pub decreases-rows : goal.decreases-rows
decreases-rows l = length l.left
