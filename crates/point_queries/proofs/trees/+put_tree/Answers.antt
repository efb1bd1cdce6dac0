use Rattle.std.proofs.Common.{arith}
use Rattle.point_queries.specs.Trees.{tree_end}
use Rattle.point_queries.proofs.trees.+put_tree.Goals as goal

pub returns : goal.returns
returns g t c =
    tree_end (g.W.FactView.facts_of c.args.view.now) c.args.compat c.args.levels c.args.c c.members.member-index c.mapping_if_counted-mapping.result.now c.args.asked.now.items c.push.new.self.items c.members.asked.items c.if-levels-eq0.false c.in_ok-push.ensures.items c.mapping_if_counted-mapping.ensures (omega arith) c.members.invariant
