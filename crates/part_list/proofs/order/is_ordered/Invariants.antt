use Rattle.part_list.proofs.OrderLemmas.{IsOrderedTo}
use Rattle.part_list.proofs.order.is_ordered.Given as goal

-- the entries in front of this one are in order
abbrev pub invariant-entries : goal.invariant-entries
invariant-entries g l = IsOrderedTo l.entries l.at
