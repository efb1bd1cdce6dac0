use Rattle.normalisation.specs.CompositionProofs.{starterless_stay}
use Rattle.normalisation.proofs.composition_laws.starterless_stay.Goals as goal

pub returns : goal.returns
returns c = starterless_stay
