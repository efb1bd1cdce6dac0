use Rattle.std.proofs.Common.{◌≡◌, ◌++◌, ℕ, length, map}
use Rattle.ucd_facts.specs.declared.row.Row.{Row}
use Rattle.release_rows.specs.Releases.{rows_now}
use Rattle.code_facts.proofs.row_lists.rows_of.Given as goal

-- the rows so far, and those that are left
abbrev pub invariant-rows : goal.invariant-rows
invariant-rows l = l.texts.items ++ map (λ (n : ℕ × Row). n.1) l.rows ≡ rows_now l.release l.fn.file

abbrev pub decreases-rows : goal.decreases-rows
decreases-rows l = length l.rows
