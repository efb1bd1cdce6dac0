use Rattle.normalisation.specs.CompositionProofs.{nothing_composes}
use Rattle.normalisation.proofs.composition_laws.empty_composes_to_empty.Goals as goal

pub returns : goal.returns
returns c = nothing_composes
