use Rattle.fold_rounds.specs.RoundProofs.{found_is_fixed}
use Rattle.fold_rounds.proofs.laws.found_is_fixed.Goals as goal

pub returns : goal.returns
returns c = found_is_fixed
