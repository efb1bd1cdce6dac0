use Rattle.normalisation.specs.OrderProofs.{starters_stay}
use Rattle.normalisation.proofs.order_laws.starters_stay.Goals as goal

pub returns : goal.returns
returns c = starters_stay
