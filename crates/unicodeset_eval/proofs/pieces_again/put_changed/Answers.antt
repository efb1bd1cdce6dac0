use Rattle.std.proofs.Common.{◌≡◌, ℕ, ◌+◌, sym, ap, ◌∙◌, arith}
use Rattle.ucd_model.specs.Records.{Record}
use Rattle.unicodeset_eval.specs.PiecesAgain.{put_cut}
use Rattle.unicodeset_eval.specs.RecordPieces.{unfolded}
use Rattle.unicodeset_eval.proofs.pieces_again.put_changed.Goals as goal

pub returns : goal.returns
returns g c =
    let R : ℕ → Record = g.B.Records.record_of c.args.bench.now in
    put_cut R c.args.point (c.args.point + 1) c.values_of-values.result c.args.made.now.items c.push.new.self.items (omega arith)
    (record {
      each = λ k from below.
          let here : k ≡ c.args.point = omega (arith, from, below) in
          ap (λ (n : ℕ). unfolded (R n)) here ∙ sym (c.values_of-values.ensures ∙ ap unfolded (c.record.ensures ∙ ap R c.at.ensures));
    })
    c.in_ok-push.ensures.items c.requires.before
