use Rattle.stability_policies.proofs.StableProofs.{forms_stay}
use Rattle.stability_policies.proofs.laws.forms_stay.Goals as goal

pub returns : goal.returns
returns c = forms_stay
