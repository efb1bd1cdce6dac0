use Rattle.stability_policies.proofs.ChainProofs.{forms_stay_through}
use Rattle.stability_policies.proofs.laws.forms_stay_through.Goals as goal

pub returns : goal.returns
returns c = forms_stay_through
