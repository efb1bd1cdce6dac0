use Rattle.ucdshop_core.proofs.SessionLemmas as proof
use Rattle.ucdshop_core.proofs.laws.refusals_are_left_out.Goals as goal

pub returns : goal.returns
returns c = proof.refusals_are_left_out
