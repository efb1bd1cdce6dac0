use Rattle.number_sets.specs.Keys.{has}
use Rattle.unicodeset_eval.specs.PiecesAgain.{left_of}
use Rattle.unicodeset_eval.proofs.record_pieces.RecordPieces.renewed.Goals as goal

pub pieces_again-requires : goal.pieces_again-requires
pieces_again-requires g c = rw (c.as_slice.ensures.value) (left_of c.args.self (has c.args.changed.now) (g.B.Records.record_of c.args.bench.now) c.requires)
