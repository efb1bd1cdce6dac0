use Rattle.bench_undo.proofs.LawLemmas as proof
use Rattle.bench_undo.proofs.laws.undo_restores.Goals as goal

pub returns : goal.returns
returns c = proof.undo_restores
