use Rattle.normalisation.specs.CompositionProofs.{composites_replace}
use Rattle.normalisation.proofs.composition_laws.composites_replace.Goals as goal

pub returns : goal.returns
returns c = composites_replace
