use Rattle.release_rows.proofs.Faults as proof
use Rattle.release_rows.proofs.laws.faults_are_first.Goals as goal

pub returns : goal.returns
returns c = proof.faults_are_first
