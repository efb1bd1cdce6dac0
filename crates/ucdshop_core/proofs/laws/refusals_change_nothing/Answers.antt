use Rattle.ucdshop_core.proofs.SessionLemmas as proof
use Rattle.ucdshop_core.proofs.laws.refusals_change_nothing.Goals as goal

pub returns : goal.returns
returns c = proof.refusals_change_nothing
