use Rattle.source_rows.proofs.Grammar as proof
use Rattle.source_rows.proofs.laws.rows_are_read.Goals as goal

pub returns : goal.returns
returns c = proof.rows_are_read
