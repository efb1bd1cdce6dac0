use Rattle.release_rows.proofs.Reload as proof
use Rattle.release_rows.proofs.laws.reloads_the_same.Goals as goal

pub returns : goal.returns
returns c = proof.reloads_the_same c.lines_are_unique.ensures c.rows_are_lines_or_ranges.ensures
