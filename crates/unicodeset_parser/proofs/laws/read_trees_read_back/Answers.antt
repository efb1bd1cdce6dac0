use Rattle.unicodeset_parser.proofs.Written.{read_trees_read_back}
use Rattle.unicodeset_parser.proofs.laws.read_trees_read_back.Goals as goal

pub returns : goal.returns
returns c = read_trees_read_back
