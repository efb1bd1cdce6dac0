use Rattle.query_laws.specs.RecordProofs.{asked_is_local as law}
use Rattle.query_laws.proofs.laws.asked_is_local.Goals as goal

pub returns : goal.returns
returns c = law
