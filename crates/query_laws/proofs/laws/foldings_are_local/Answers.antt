use Rattle.query_laws.specs.RoundProofs.{same_foldings as law}
use Rattle.query_laws.proofs.laws.foldings_are_local.Goals as goal

pub returns : goal.returns
returns c = law
