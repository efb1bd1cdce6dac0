use Rattle.normalisation.specs.CompositionProofs.{unpaired_stay}
use Rattle.normalisation.proofs.composition_laws.unpaired_stay.Goals as goal

pub returns : goal.returns
returns c = unpaired_stay
