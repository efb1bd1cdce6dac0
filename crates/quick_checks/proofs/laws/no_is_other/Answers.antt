use Rattle.quick_checks.specs.CheckProofs.{no_is_other}
use Rattle.quick_checks.proofs.laws.no_is_other.Goals as goal

pub returns : goal.returns
returns c = no_is_other
