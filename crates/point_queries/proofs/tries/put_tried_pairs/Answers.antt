use Rattle.std.proofs.Common.{arith}
use Rattle.point_queries.specs.TryProofs.{tries_end}
use Rattle.point_queries.proofs.tries.put_tried_pairs.Goals as goal

pub returns : goal.returns
returns g c = tries_end (g.W.FactView.facts_of c.args.view.now) c.args.points.now c.points.y-index c.points.starter c.args.asked.now.items c.points.asked.items (omega arith) c.points.invariant
