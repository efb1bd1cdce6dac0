use Rattle.ucd_laws.specs.LabelLawProofs.{spans_are_maximal}
use Rattle.ucd_laws.proofs.span_laws.spans_are_maximal.Goals as goal

pub returns : goal.returns
returns c = spans_are_maximal
