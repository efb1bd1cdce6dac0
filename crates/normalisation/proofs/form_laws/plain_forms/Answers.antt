use Rattle.normalisation.specs.FormValueProofs.{plain_forms}
use Rattle.normalisation.proofs.form_laws.plain_forms.Goals as goal

pub returns : goal.returns
returns c = plain_forms
