use Rattle.query_laws.specs.RoundProofs.{same_rounds as law}
use Rattle.query_laws.proofs.laws.rounds_are_local.Goals as goal

pub returns : goal.returns
returns c = law
