use Rattle.normalisation.specs.FormProofs.{nfkd_of_nfkc}
use Rattle.normalisation.proofs.form_laws.nfkd_of_nfkc.Goals as goal

pub returns : goal.returns
returns c = nfkd_of_nfkc
