use Rattle.ucd_laws.specs.LabelLawProofs.{stretches_are_spans}
use Rattle.ucd_laws.proofs.span_laws.stretches_are_spans.Goals as goal

pub returns : goal.returns
returns c = stretches_are_spans
