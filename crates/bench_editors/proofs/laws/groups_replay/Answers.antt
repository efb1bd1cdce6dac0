use Rattle.bench_editors.proofs.Replaying as proof
use Rattle.bench_editors.proofs.laws.groups_replay.Goals as goal

pub returns : goal.returns
returns c = proof.groups_replay
