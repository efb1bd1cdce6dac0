use Rattle.std.proofs.Common.{arith}
use Rattle.std.proofs.lemmas.List.Elements.{All-push}
use Rattle.record_table.specs.Records.{record_now}
use Rattle.ucd_points.specs.Bounds.{Bounds}
use Rattle.ucd_model.specs.CutLemmas.{cut_push}
use Rattle.edit_session.specs.Benches.{EndsAlike}
use Rattle.edit_session.proofs.CutLemmas.{cut_whole}
use Rattle.edit_session.proofs.PieceLemmas.{ends_alike, equal_in}
use Rattle.edit_session.proofs.pieces.pieces_of.Goals as goal

-- one more span, behind the pieces so far
pub pieces-preserved : goal.pieces-preserved
pieces-preserved c =
    let s : Bounds = record { lo = c.at-lo.result; hi = c.last_alike-hi.result } in
    let last = c.last_alike-hi.ensures in
    let S = record_now c.args.records.now in
    record {
      cut = λ R are. rw (c.number-number.ensures.value, c.in_ok-push.ensures.ok) (cut_push R 0 c.pieces.number c.pieces.pieces s (c.pieces.invariant.cut R are) c.at-lo.ensures last.from (equal_in S R are s last.from last.inside last.same));
      ends = λ R are. rw (c.in_ok-push.ensures.ok) (All-push (EndsAlike R) c.pieces.pieces s (c.pieces.invariant.ends R are) (ends_alike S R are s last.from last.inside last.ends));
      within = omega (arith, c.number-number.ensures.bound);
    }

-- all code points are in them
pub returns-clause-cut : goal.returns-clause-cut
returns-clause-cut c = λ R are. cut_whole R c.pieces.number c.pieces.pieces (omega (arith, c.pieces-test.false, c.pieces.invariant.within)) (c.pieces.invariant.cut R are)
