use Rattle.source_rows.proofs.KeyTexts as proof
use Rattle.source_rows.proofs.laws.key_texts_read_back.Goals as goal

pub returns : goal.returns
returns c = proof.key_texts_read_back
