use Rattle.normalisation.specs.FormProofs.{nfkc_twice}
use Rattle.normalisation.proofs.form_laws.nfkc_twice.Goals as goal

pub returns : goal.returns
returns c = nfkc_twice
