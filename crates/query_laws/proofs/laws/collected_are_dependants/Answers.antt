use Rattle.query_laws.specs.TurnProofs.{collected_are_dependants as law}
use Rattle.query_laws.proofs.laws.collected_are_dependants.Goals as goal

pub returns : goal.returns
returns c = law
