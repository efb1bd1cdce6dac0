use Rattle.normalisation.specs.OrderProofs.{order_is_reached}
use Rattle.normalisation.proofs.order_laws.order_is_reached.Goals as goal

pub returns : goal.returns
returns c = order_is_reached
