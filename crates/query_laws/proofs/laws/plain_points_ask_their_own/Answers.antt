use Rattle.query_laws.specs.PlainProofs.{plain_ask_own as law}
use Rattle.query_laws.proofs.laws.plain_points_ask_their_own.Goals as goal

pub returns : goal.returns
returns c = law
