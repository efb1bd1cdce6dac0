use Rattle.query_laws.specs.FormProofs.{same_forms as law}
use Rattle.query_laws.proofs.laws.forms_are_local.Goals as goal

pub returns : goal.returns
returns c = law
