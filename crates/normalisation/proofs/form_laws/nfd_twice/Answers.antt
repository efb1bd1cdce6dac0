use Rattle.normalisation.specs.FormProofs.{nfd_twice}
use Rattle.normalisation.proofs.form_laws.nfd_twice.Goals as goal

pub returns : goal.returns
returns c = nfd_twice
