use Rattle.std.proofs.Common.{◌≡◌, arith}
use Rattle.ucd_points.specs.Limits.{point_count}
use Rattle.number_sets.specs.Keys.{has}
use Rattle.norm_conformance.specs.Misses.{misses_at}
use Rattle.norm_conformance.proofs.PointLemmas.{points_all, points_more}
use Rattle.norm_conformance.proofs.checking.put_misses_of_unlisted_points.Goals as goal

pub points-preserved : goal.points-preserved
points-preserved g c =
    points_more (misses_at (g.W.FactView.facts_of c.args.view.now) (has c.args.listed.now)) c.args.found.now c.points.found c.put_misses_if_unlisted.new.found c.points.number c.at.result
    c.points.invariant c.at.ensures c.in_ok-put_misses_if_unlisted.ensures

pub returns : goal.returns
returns g c =
    let all : c.points.number ≡ point_count = omega (arith, c.point_count-count.ensures.value) in
    points_all (g.W.FactView.facts_of c.args.view.now) (has c.args.listed.now) c.args.found.now c.points.found c.points.number all c.points.invariant
