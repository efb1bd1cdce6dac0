use Rattle.normalisation.specs.FormProofs.{nfkd_twice}
use Rattle.normalisation.proofs.form_laws.nfkd_twice.Goals as goal

pub returns : goal.returns
returns c = nfkd_twice
