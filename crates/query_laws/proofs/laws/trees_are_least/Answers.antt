use Rattle.query_laws.specs.TreeProofs.{tree_is_least as law}
use Rattle.query_laws.proofs.laws.trees_are_least.Goals as goal

pub returns : goal.returns
returns c = law
