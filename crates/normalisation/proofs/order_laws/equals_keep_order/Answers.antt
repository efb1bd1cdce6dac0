use Rattle.normalisation.specs.OrderProofs.{equals_keep_order}
use Rattle.normalisation.proofs.order_laws.equals_keep_order.Goals as goal

pub returns : goal.returns
returns c = equals_keep_order
