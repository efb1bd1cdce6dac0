use Rattle.std.proofs.Common.{rules, length, sym, ap, ◌∙◌, option_map}
use Rattle.script_pieces.specs.Views.{left, mark_of}
use Rattle.script_pieces.proofs.pieces.PiecesIterator.next.Goals as goal

pub returns-clause-steps : goal.returns-clause-steps
returns-clause-steps c = sym c.self.view_is ∙ ap left c.in-Some.is ∙ c.first_piece.ensures.pieces (option_map mark_of c.in-Some.head.mark)

pub returns-clause-goes : goal.returns-clause-goes
returns-clause-goes c =
    let is = returns-clause-steps c in
    let size = ap length is in
    search rules
