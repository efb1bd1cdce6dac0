use Rattle.release_rows.proofs.Touched as proof
use Rattle.release_rows.proofs.laws.rows_stay.Goals as goal

pub returns : goal.returns
returns c = proof.rows_stay
