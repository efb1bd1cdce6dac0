use Rattle.script_lines.proofs.FirstFaults.{faults_are_first}
use Rattle.script_lines.proofs.laws.faults_are_first.Goals as goal

pub returns : goal.returns
returns c = faults_are_first
