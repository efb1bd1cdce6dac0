use Rattle.norm_conformance.proofs.CasesRead.{faults_are_first}
use Rattle.norm_conformance.proofs.laws.faults_are_first.Goals as goal

pub returns : goal.returns
returns c = faults_are_first
