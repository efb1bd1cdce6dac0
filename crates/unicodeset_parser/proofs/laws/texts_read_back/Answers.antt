use Rattle.unicodeset_parser.proofs.ReadBack.{texts_read_back}
use Rattle.unicodeset_parser.proofs.laws.texts_read_back.Goals as goal

pub returns : goal.returns
returns c = texts_read_back
