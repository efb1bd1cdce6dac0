use Rattle.ucdshop_core.proofs.PathLemmas as proof
use Rattle.ucdshop_core.proofs.laws.other_paths_stay.Goals as goal

pub returns : goal.returns
returns c = proof.other_paths_stay
