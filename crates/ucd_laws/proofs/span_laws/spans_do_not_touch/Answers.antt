use Rattle.ucd_laws.specs.LabelLawProofs.{spans_do_not_touch}
use Rattle.ucd_laws.proofs.span_laws.spans_do_not_touch.Goals as goal

pub returns : goal.returns
returns c = spans_do_not_touch
