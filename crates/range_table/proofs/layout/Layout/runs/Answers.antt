use Rattle.std.proofs.Common.{◌≤◌, arith}
use Rattle.range_table.specs.Values.{point_count-is}
use Rattle.ucd_points.specs.Limits.{point_count}
use Rattle.range_table.proofs.RunCounts.{run_count-layout}
use Rattle.range_table.proofs.layout.Layout.runs.Goals as goal

pub returns : goal.returns
returns g c =
    let all : 1114112 ≤ point_count = omega (arith, point_count-is) in
    let runs = run_count-layout g.V.PartialEq.eq c.self.inside.first c.self.inside.changes.items point_count g.met.V.Eq.laws.refl c.self.invariant.follow all in
    rw (← c.self.view_is, c.len.ensures) (omega arith)
