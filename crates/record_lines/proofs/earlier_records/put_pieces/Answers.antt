use Rattle.std.proofs.Common.{◌≡◌, arith}
use Rattle.ucd_points.specs.Limits.{point_count}
use Rattle.ucd_model.specs.CutLemmas.{cut_ended, point_count-is}
use Rattle.record_lines.proofs.earlier_records.put_pieces.Goals as goal

pub returns : goal.returns
returns g c point lt =
    let ends : c.pieces.end ≡ point_count = cut_ended (g.B.Records.record_of c.args.bench.now) c.pieces.end point_count c.pieces.piece-index c.args.pieces.now c.pieces-test.false c.pieces.invariant.cut in
    c.pieces.invariant.given point (omega (arith, ends, point_count-is))
