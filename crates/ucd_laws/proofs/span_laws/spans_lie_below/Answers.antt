use Rattle.ucd_laws.specs.LabelLawProofs.{spans_lie_below}
use Rattle.ucd_laws.proofs.span_laws.spans_lie_below.Goals as goal

pub returns : goal.returns
returns c = spans_lie_below
