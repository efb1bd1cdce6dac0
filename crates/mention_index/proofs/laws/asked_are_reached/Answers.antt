use Rattle.mention_index.specs.ReachProofs.{asked_are_reached as law}
use Rattle.mention_index.proofs.laws.asked_are_reached.Goals as goal

pub returns : goal.returns
returns c = law
