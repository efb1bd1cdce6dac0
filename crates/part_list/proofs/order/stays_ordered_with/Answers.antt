use Rattle.part_list.proofs.OrderLemmas.{ordered_push}
use Rattle.part_list.proofs.order.stays_ordered_with.Goals as goal

-- the entry does not come before the last one
pub returns-else-len-eq0 : goal.returns-else-len-eq0
returns-else-len-eq0 g c = λ up ordered. ordered_push c.args.entries.now c.args.entry.now c.index-entries-len.result ordered (λ some. (c.index-entries-len.is, c.are_in_order.ensures up))
