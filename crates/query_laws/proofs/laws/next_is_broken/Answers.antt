use Rattle.query_laws.specs.TurnProofs.{next_is_broken as law}
use Rattle.query_laws.proofs.laws.next_is_broken.Goals as goal

pub returns : goal.returns
returns c = law
