use Rattle.query_laws.specs.TurnProofs.{next_keeps_asked as law}
use Rattle.query_laws.proofs.laws.next_keeps_asked.Goals as goal

pub returns : goal.returns
returns c = law
