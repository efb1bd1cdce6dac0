use Rattle.release_rows.specs.TouchingProofs.{rows_meet}
use Rattle.release_rows.proofs.laws.speaking_rows_meet_spans.Goals as goal

pub returns : goal.returns
returns c = rows_meet
