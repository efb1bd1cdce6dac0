use Rattle.quick_checks.specs.CheckProofs.{others_are_same}
use Rattle.quick_checks.proofs.laws.others_are_same.Goals as goal

pub returns : goal.returns
returns c = others_are_same
