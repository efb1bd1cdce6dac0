use Rattle.query_laws.specs.TurnProofs.{others_stay as law}
use Rattle.query_laws.proofs.laws.others_stay.Goals as goal

pub returns : goal.returns
returns c = law
