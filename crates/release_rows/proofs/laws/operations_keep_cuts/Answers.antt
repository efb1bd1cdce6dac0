use Rattle.release_rows.proofs.Cuts as proof
use Rattle.release_rows.proofs.laws.operations_keep_cuts.Goals as goal

pub returns : goal.returns
returns c = proof.operations_keep_cuts c.rows_are_no_trivia.ensures
