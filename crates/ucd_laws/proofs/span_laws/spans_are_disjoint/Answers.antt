use Rattle.ucd_laws.specs.LabelLawProofs.{spans_are_disjoint}
use Rattle.ucd_laws.proofs.span_laws.spans_are_disjoint.Goals as goal

pub returns : goal.returns
returns c = spans_are_disjoint
