use Rattle.unicodeset_parser.proofs.Written as proof
use Rattle.unicodeset_parser.proofs.laws.read_trees_can_be_written.Goals as goal

pub returns : goal.returns
returns c = proof.read_trees_can_be_written
