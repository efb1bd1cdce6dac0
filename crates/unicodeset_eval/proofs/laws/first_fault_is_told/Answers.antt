use Rattle.unicodeset_eval.proofs.FaultLemmas.{first_fault}
use Rattle.unicodeset_eval.proofs.laws.first_fault_is_told.Goals as goal

pub returns : goal.returns
returns c = first_fault
