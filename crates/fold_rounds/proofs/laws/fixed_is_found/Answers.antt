use Rattle.fold_rounds.specs.RoundProofs.{fixed_is_found}
use Rattle.fold_rounds.proofs.laws.fixed_is_found.Goals as goal

pub returns : goal.returns
returns c = fixed_is_found
