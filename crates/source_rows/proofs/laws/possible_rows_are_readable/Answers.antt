use Rattle.source_rows.proofs.RowsOk as proof
use Rattle.source_rows.proofs.laws.possible_rows_are_readable.Goals as goal

pub returns : goal.returns
returns c = proof.rows_are_ok
