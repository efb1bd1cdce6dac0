use Rattle.source_rows.proofs.KeyNames as proof
use Rattle.source_rows.proofs.laws.contents_have_keys.Goals as goal

pub returns : goal.returns
returns c = proof.contents_have_keys
