use Rattle.std.proofs.Common.{rules}
use Rattle.part_list.proofs.OrderLemmas.{ordered_more}
use Rattle.part_list.proofs.order.is_ordered.Goals as goal

-- the entry does not come before the one in front of it
pub entries-preserved : goal.entries-preserved
entries-preserved g c = ordered_more c.args.entries.now c.entries.at c.index-entries-at.result c.index-entries-at-in-entries.result (search rules) c.entries-test.true c.entries.invariant c.index-entries-at.is c.index-entries-at-in-entries.is (c.are_in_order.ensures c.if-not-are_in_order.false)
