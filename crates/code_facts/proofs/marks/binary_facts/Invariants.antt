use Rattle.std.proofs.Common.{◌≡◌, ℕ, ◌<◌}
use Rattle.range_table.specs.RunTable.{values_now}
use Rattle.code_facts.specs.RowLists.{sources_of}
use Rattle.code_facts.specs.Marks.{marks_before}
use Rattle.code_facts.proofs.marks.binary_facts.Given as goal

-- the marks before this one are summed
abbrev pub invariant-marks : goal.invariant-marks
invariant-marks l = (c : ℕ) → c < 1114112 → values_now l.table c ≡ marks_before l.place (sources_of l.rows) c
