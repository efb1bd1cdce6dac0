use Rattle.normalisation.specs.FormProofs.{nfc_of_members}
use Rattle.normalisation.proofs.form_laws.nfc_members_stay.Goals as goal

pub returns : goal.returns
returns c = nfc_of_members
