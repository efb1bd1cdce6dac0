use Rattle.std.proofs.Common.{ℕ, map, ap, ◌∙◌}
use Rattle.ucd_points.specs.declared.files.SourceFile.TheVariants.{UnicodeData}
use Rattle.ucd_facts.specs.declared.row.Row.{Row}
use Rattle.release_rows.specs.FileLemmas.{rows_of_numbered}
use Rattle.release_rows.specs.Releases.{items_now}
use Rattle.stability_policies.proofs.named_row.all_rows.Goals as goal

pub rows-init : goal.rows-init
rows-init c = rw c.new-all.ensures.items (ap (map (λ (n : ℕ × Row). n.1)) c.rows-rows.ensures.rows ∙ rows_of_numbered 1 (items_now c.args.release.now UnicodeData))
