use Rattle.query_laws.specs.ExpansionProofs.{same_expansions as law}
use Rattle.query_laws.proofs.laws.expansions_are_local.Goals as goal

pub returns : goal.returns
returns c = law
