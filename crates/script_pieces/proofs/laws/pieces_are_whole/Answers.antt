use Rattle.script_pieces.proofs.PieceLemmas.{pieces_are_whole}
use Rattle.script_pieces.proofs.laws.pieces_are_whole.Goals as goal

pub returns : goal.returns
returns c = pieces_are_whole c.items_join.ensures
