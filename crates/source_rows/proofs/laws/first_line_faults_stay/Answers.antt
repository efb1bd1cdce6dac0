use Rattle.source_rows.proofs.FirstLines as proof
use Rattle.source_rows.proofs.laws.first_line_faults_stay.Goals as goal

pub returns : goal.returns
returns c = proof.first_line_faults_stay
