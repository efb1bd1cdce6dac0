use Rattle.bench_undo.proofs.LawLemmas as proof
use Rattle.bench_undo.proofs.laws.same_points_change.Goals as goal

pub returns : goal.returns
returns c = proof.same_points_change c.records_are_told.ensures
