use Rattle.normalisation.specs.CompositionProofs.{blocked_stay}
use Rattle.normalisation.proofs.composition_laws.blocked_stay.Goals as goal

pub returns : goal.returns
returns c = blocked_stay
