use Rattle.script_pieces.proofs.PieceLemmas.{pieces_fit}
use Rattle.script_pieces.proofs.laws.piece_line_numbers_fit.Goals as goal

pub returns : goal.returns
returns c = pieces_fit c.items_join.ensures c.no_line_feed_inside.ensures c.only_the_last_is_unended.ensures c.endings_are_told_apart.ensures
