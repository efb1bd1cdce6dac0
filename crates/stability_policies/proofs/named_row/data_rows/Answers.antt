use Rattle.std.proofs.Common.{List, sym, subst}
use Rattle.ucd_points.specs.declared.files.SourceFile.TheVariants.{UnicodeData}
use Rattle.ucd_facts.specs.declared.row.Row.{Row}
use Rattle.release_rows.specs.Releases.{items_now}
use Rattle.stability_policies.specs.NamedRows.{AreAbove, named}
use Rattle.stability_policies.proofs.OrderedRows.{rows_follow}
use Rattle.stability_policies.proofs.named_row.data_rows.Goals as goal

pub returns-clause-above : goal.returns-clause-above
returns-clause-above c =
    subst (λ (rows : List Row). AreAbove 0 (named rows)) (sym c.in_ok-rows.ensures) (rows_follow c.rows_are_read.ensures c.possible_rows_are_readable.ensures (items_now c.args.release.now UnicodeData) c.rows-rows.ensures.kept c.rows-rows.ensures.ascends)
