use Rattle.ucdshop_core.proofs.LineLemmas as proof
use Rattle.ucdshop_core.proofs.laws.lines_are_counted.Goals as goal

pub returns : goal.returns
returns c = proof.lines_are_counted c.no_line_feed_inside.ensures c.only_the_last_is_unended.ensures c.endings_are_told_apart.ensures
