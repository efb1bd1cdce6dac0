use Rattle.std.proofs.Common.{ℕ, map, ap, ◌∙◌}
use Rattle.ucd_facts.specs.declared.row.Row.{Row}
use Rattle.release_rows.specs.FileLemmas.{rows_of_numbered}
use Rattle.release_rows.specs.Releases.{items_now}
use Rattle.code_facts.proofs.row_lists.rows_of.Goals as goal

pub rows-init : goal.rows-init
rows-init c = rw c.new-texts.ensures.items (ap (map (λ (n : ℕ × Row). n.1)) c.rows-rows.ensures.rows ∙ rows_of_numbered 1 (items_now c.args.release.now c.args.file))
