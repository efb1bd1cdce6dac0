use Rattle.std.proofs.Common.{◌≡◌, ◌++◌, ℕ, length, map}
use Rattle.ucd_facts.specs.declared.row.Row.{Row}
use Rattle.release_rows.specs.Releases.{items_now, rows_at}
use Rattle.stability_policies.specs.Reports.{names_in}
use Rattle.stability_policies.proofs.alias_rows.all_names.Given as goal

-- the names so far, and those of the rows that are left
abbrev pub invariant-rows : goal.invariant-rows
invariant-rows l = l.names ++ map (λ (r : ℕ × Row). names_in r.1) l.rows ≡ map (λ (r : ℕ × Row). names_in r.1) (rows_at (items_now l.release l.fn.file))

abbrev pub decreases-rows : goal.decreases-rows
decreases-rows l = length l.rows
