use Rattle.unicodeset_parser.proofs.FaultNames.{faults_are_named}
use Rattle.unicodeset_parser.proofs.laws.faults_are_named.Goals as goal

pub returns : goal.returns
returns c = faults_are_named
