use Rattle.release_rows.proofs.Order as proof
use Rattle.release_rows.proofs.laws.operations_keep_order.Goals as goal

pub returns : goal.returns
returns c = proof.operations_keep_order
