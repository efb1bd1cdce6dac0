use Rattle.unicodeset_eval.proofs.FaultLemmas.{least_fault}
use Rattle.unicodeset_eval.proofs.laws.least_fault_is_told.Goals as goal

pub returns : goal.returns
returns c = least_fault c.places_ascend.ensures
