use Rattle.ucd_laws.specs.LabelLawProofs.{labelled_lie_in_a_span}
use Rattle.ucd_laws.proofs.span_laws.labelled_lie_in_a_span.Goals as goal

pub returns : goal.returns
returns c = labelled_lie_in_a_span
