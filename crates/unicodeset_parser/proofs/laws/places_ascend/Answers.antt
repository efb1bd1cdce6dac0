use Rattle.unicodeset_parser.proofs.Places as proof
use Rattle.unicodeset_parser.proofs.laws.places_ascend.Goals as goal

pub returns : goal.returns
returns c = proof.places_ascend
