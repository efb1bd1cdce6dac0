use Rattle.std.proofs.Common.{Bool, ◌&&◌, sym, ap, ◌∙◌}
use Rattle.ucd_points.specs.MissingLines.{takes_missing}
use Rattle.release_rows.proofs.edits.gap_for.Goals as goal

-- what is looked for tells which of both the row is
pub returns-then-seeks_missing_row : goal.returns-then-seeks_missing_row
returns-then-seeks_missing_row c row is =
    c.missing_gap.ensures row is (ap (λ (b : Bool). takes_missing c.args.search.now.file && b) (sym is.missing) ∙ sym c.seeks_missing_row.ensures ∙ c.if-seeks_missing_row.true)

pub returns-else-seeks_missing_row : goal.returns-else-seeks_missing_row
returns-else-seeks_missing_row c row is =
    c.ordinary_gap.ensures row is (ap (λ (b : Bool). takes_missing c.args.search.now.file && b) (sym is.missing) ∙ sym c.seeks_missing_row.ensures ∙ c.if-seeks_missing_row.false)
