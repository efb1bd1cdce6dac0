use Rattle.ucdshop_core.proofs.PathLemmas as proof
use Rattle.ucdshop_core.proofs.laws.outputs_hold_their_bytes.Goals as goal

pub returns : goal.returns
returns c = proof.outputs_hold_their_bytes
