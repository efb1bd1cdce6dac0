use Rattle.release_rows.proofs.Unchanged as proof
use Rattle.release_rows.proofs.laws.everything_else_stays.Goals as goal

pub returns : goal.returns
returns c = proof.everything_else_stays
