use Rattle.source_rows.proofs.Spans.{spelled, given}
use Rattle.source_rows.proofs.laws.spans_are_read.Goals as goal

pub returns : goal.returns
returns c = λ bs s. (spelled bs s, given bs s)
