use Rattle.quick_checks.specs.CheckProofs.{kinds_tell}
use Rattle.quick_checks.proofs.laws.kinds_tell_quick_checks.Goals as goal

pub returns : goal.returns
returns c = kinds_tell
