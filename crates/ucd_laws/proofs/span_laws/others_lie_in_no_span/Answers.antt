use Rattle.ucd_laws.specs.LabelLawProofs.{others_lie_in_no_span}
use Rattle.ucd_laws.proofs.span_laws.others_lie_in_no_span.Goals as goal

pub returns : goal.returns
returns c = others_lie_in_no_span
