use Rattle.std.proofs.Common.{◌≡◌, ◌+◌, length}
use Rattle.release_rows.specs.Releases.{items_at, rows_at}
use Rattle.ucd_points.specs.declared.files.SourceFile.TheVariants.{UnicodeData}
use Rattle.ucdshop_core.proofs.making.count_data_rows.Given as goal

-- the rows so far, and those that are left
abbrev pub invariant-rows : goal.invariant-rows
invariant-rows l = l.count + length l.rows ≡ length (rows_at (items_at l.bench.current UnicodeData))

abbrev pub decreases-rows : goal.decreases-rows
decreases-rows l = length l.rows
