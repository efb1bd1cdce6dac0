use Rattle.unicodeset_parser.proofs.Written.{read_trees_are_text}
use Rattle.unicodeset_parser.proofs.laws.read_trees_are_text.Goals as goal

pub returns : goal.returns
returns c = read_trees_are_text
