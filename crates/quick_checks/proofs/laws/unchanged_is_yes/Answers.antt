use Rattle.quick_checks.specs.CheckProofs.{unchanged_is_yes}
use Rattle.quick_checks.proofs.laws.unchanged_is_yes.Goals as goal

pub returns : goal.returns
returns c = unchanged_is_yes
