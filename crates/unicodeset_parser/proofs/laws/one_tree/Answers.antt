use Rattle.unicodeset_parser.proofs.Sound.{one}
use Rattle.unicodeset_parser.proofs.laws.one_tree.Goals as goal

pub returns : goal.returns
returns c = one
