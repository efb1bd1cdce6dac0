use Rattle.unicodeset_eval.specs.PiecesAgain.{put_cut}
use Rattle.unicodeset_eval.proofs.pieces_again.put_alike.Goals as goal

pub returns-in_ok-push : goal.returns-in_ok-push
returns-in_ok-push c = λ R alike cut.
    put_cut R c.args.from c.args.end c.args.values c.args.made.now.items c.push.new.self.items c.if-from-end.true alike c.in_ok-push.ensures.items cut
