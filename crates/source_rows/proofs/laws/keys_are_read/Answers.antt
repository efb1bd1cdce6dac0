use Rattle.source_rows.proofs.KeyGrammar as proof
use Rattle.source_rows.proofs.laws.keys_are_read.Goals as goal

pub returns : goal.returns
returns c = proof.keys_are_read
