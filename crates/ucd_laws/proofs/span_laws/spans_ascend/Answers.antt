use Rattle.ucd_laws.specs.LabelLawProofs.{spans_ascend}
use Rattle.ucd_laws.proofs.span_laws.spans_ascend.Goals as goal

pub returns : goal.returns
returns c = spans_ascend
