use Rattle.normalisation.specs.FormProofs.{nfkc_of_members}
use Rattle.normalisation.proofs.form_laws.nfkc_members_stay.Goals as goal

pub returns : goal.returns
returns c = nfkc_of_members
