use Rattle.normalisation.specs.OrderProofs.{order_twice}
use Rattle.normalisation.proofs.order_laws.order_twice.Goals as goal

pub returns : goal.returns
returns c = order_twice
