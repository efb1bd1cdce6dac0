use Rattle.normalisation.specs.FormProofs.{nfd_of_nfc}
use Rattle.normalisation.proofs.form_laws.nfd_of_nfc.Goals as goal

pub returns : goal.returns
returns c = nfd_of_nfc
