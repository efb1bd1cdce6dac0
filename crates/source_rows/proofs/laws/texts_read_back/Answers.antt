use Rattle.source_rows.proofs.RoundTrips as proof
use Rattle.source_rows.proofs.laws.texts_read_back.Goals as goal

pub returns : goal.returns
returns c = proof.texts_read_back
