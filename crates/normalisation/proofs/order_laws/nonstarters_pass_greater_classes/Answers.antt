use Rattle.normalisation.specs.OrderProofs.{marks_move}
use Rattle.normalisation.proofs.order_laws.nonstarters_pass_greater_classes.Goals as goal

pub returns : goal.returns
returns c = marks_move
