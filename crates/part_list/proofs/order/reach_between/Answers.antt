use Rattle.std.proofs.Common.{rules}
use Rattle.part_list.proofs.OrderLemmas.{within_ordered}
use Rattle.part_list.proofs.order.reach_between.Goals as goal

pub returns : goal.returns
returns g c = within_ordered c.args.entries.now c.args.reach c.max.result c.args.from c.args.to c.index-entries-from.result c.index-entries-to.result c.requires.ordered c.requires.reach c.requires.within c.index-entries-to.is (search rules) (search rules)
