use Rattle.release_rows.proofs.Faults as proof
use Rattle.release_rows.proofs.laws.loads_exactly.Goals as goal

pub returns : goal.returns
returns c = proof.loads_exactly
