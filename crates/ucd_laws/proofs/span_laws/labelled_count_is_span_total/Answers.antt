use Rattle.ucd_laws.specs.LabelLawProofs.{labelled_is_their_length}
use Rattle.ucd_laws.proofs.span_laws.labelled_count_is_span_total.Goals as goal

pub returns : goal.returns
returns c = labelled_is_their_length
