use Rattle.normalisation.specs.FormProofs.{nfc_twice}
use Rattle.normalisation.proofs.form_laws.nfc_twice.Goals as goal

pub returns : goal.returns
returns c = nfc_twice
