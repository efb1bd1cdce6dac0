use Rattle.bench_editors.proofs.Replaying as proof
use Rattle.bench_editors.proofs.laws.replies_are_those_of_a_lone_editor.Goals as goal

pub returns : goal.returns
returns c = proof.replies_are_those_of_a_lone_editor
