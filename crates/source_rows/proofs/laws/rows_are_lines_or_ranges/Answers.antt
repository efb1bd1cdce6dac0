use Rattle.source_rows.proofs.RowLines as proof
use Rattle.source_rows.proofs.laws.rows_are_lines_or_ranges.Goals as goal

pub returns : goal.returns
returns c = proof.rows_have_lines
