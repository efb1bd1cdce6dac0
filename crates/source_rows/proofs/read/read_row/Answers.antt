use Rattle.std.proofs.Common.{Ok, ap, sym, ◌∙◌}
use Rattle.source_rows.proofs.RowsOk.{row_ok}
use Rattle.source_rows.proofs.read.read_row.Goals as goal

pub returns-clause-ok : goal.returns-clause-ok
returns-clause-ok c =
    row_ok c.args.file c.args.bytes.now c.in_ok-row.row (c.in_ok-read_row_ref.ensures ∙ ap (λ row. Ok row) (sym c.in_ok-row.ensures))
