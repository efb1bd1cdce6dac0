use Rattle.release_rows.proofs.TouchedBack as proof
use Rattle.release_rows.proofs.laws.rows_stay_back.Goals as goal

pub returns : goal.returns
returns c = proof.rows_stay_back
