use Rattle.unicodeset_parser.proofs.Complete.{complete}
use Rattle.unicodeset_parser.proofs.Sound.{sound}
use Rattle.unicodeset_parser.proofs.laws.reads_exactly.Goals as goal

pub returns : goal.returns
returns c = λ e ps t. (sound e ps t, complete e ps t)
