use Rattle.std.proofs.Common.{◌≡◌, ◌++◌, ℕ, length, map}
use Rattle.ucd_facts.specs.declared.row.Row.{Row}
use Rattle.release_rows.specs.Releases.{items_now, rows_at}
use Rattle.stability_policies.specs.Reports.{lost_in, lost_rows, names_in}
use Rattle.stability_policies.proofs.alias_rows.put_lost_aliases.Given as goal

-- the breaks so far, and those by the rows that are left; and the names of the new file stay
abbrev pub invariant-rows : goal.invariant-rows
invariant-rows l = record {
  lost : l.into ++ lost_rows l.file l.rows (rows_at (items_now l.new l.file)) ≡ l.initial.into ++ lost_in l.file l.fn.old l.new;
  kept : l.kept ≡ map (λ (r : ℕ × Row). names_in r.1) (rows_at (items_now l.new l.file));
}

abbrev pub decreases-rows : goal.decreases-rows
decreases-rows l = length l.rows
