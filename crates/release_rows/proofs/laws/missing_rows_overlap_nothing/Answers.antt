use Rattle.release_rows.proofs.SharedSpans.{missing_overlaps_nothing}
use Rattle.release_rows.proofs.laws.missing_rows_overlap_nothing.Goals as goal

pub returns : goal.returns
returns c = missing_overlaps_nothing
