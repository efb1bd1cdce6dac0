use Rattle.std.proofs.Common.{◌≡◌, ◌++◌, ℕ, length, map}
use Rattle.ucd_points.specs.declared.files.SourceFile.TheVariants.{UnicodeData}
use Rattle.ucd_facts.specs.declared.row.Row.{Row}
use Rattle.release_rows.specs.Releases.{rows_now}
use Rattle.stability_policies.proofs.named_row.all_rows.Given as goal

-- the rows so far, and those that are left
abbrev pub invariant-rows : goal.invariant-rows
invariant-rows l = l.all.items ++ map (λ (n : ℕ × Row). n.1) l.rows ≡ rows_now l.release UnicodeData

abbrev pub decreases-rows : goal.decreases-rows
decreases-rows l = length l.rows
