use Rattle.normalisation.specs.FormValueProofs.{forms_are_together}
use Rattle.normalisation.proofs.form_laws.forms_are_together.Goals as goal

pub returns : goal.returns
returns c = forms_are_together
