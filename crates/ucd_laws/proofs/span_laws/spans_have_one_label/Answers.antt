use Rattle.ucd_laws.specs.LabelLawProofs.{spans_have_one_label}
use Rattle.ucd_laws.proofs.span_laws.spans_have_one_label.Goals as goal

pub returns : goal.returns
returns c = spans_have_one_label
