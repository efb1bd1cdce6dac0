use Rattle.std.proofs.Common.{◌≡◌, ◌++◌, take, drop, map}
use Rattle.source_rows.specs.RowRefs.{row_in}
use Rattle.record_lines.specs.PointTexts.{with_more}
use Rattle.record_lines.specs.RowLines.{if_speaks}
use Rattle.record_lines.proofs.rows.put_lines_by_point.Given as goal

-- the code points so far have it
abbrev pub invariant-told : goal.invariant-told
invariant-told l =
    l.told ≡ map (with_more (if_speaks (row_in l.fn.row) l.fn.lines)) (take l.one-index l.initial.told) ++ drop l.one-index l.initial.told
