use Rattle.source_rows.proofs.Trivia as proof
use Rattle.source_rows.proofs.laws.rows_are_no_trivia.Goals as goal

pub returns : goal.returns
returns c = proof.rows_are_no_trivia
