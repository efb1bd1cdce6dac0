use Rattle.unicodeset_parser.proofs.FaultPlaces.{faults_are_first}
use Rattle.unicodeset_parser.proofs.laws.faults_are_first.Goals as goal

pub returns : goal.returns
returns c = faults_are_first
