use Rattle.release_rows.proofs.Operations as proof
use Rattle.release_rows.proofs.laws.operations_keep_rows.Goals as goal

pub returns : goal.returns
returns c = proof.operations_keep_rows c.rows_are_no_trivia.ensures
