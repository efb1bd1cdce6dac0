use Rattle.number_sets.specs.Keys.{has}
use Rattle.number_sets.specs.Bits.{has_number}
use Rattle.mention_index.specs.Walks.{Going, by_keys, left}
use Rattle.mention_index.proofs.reaching.reach_all.Given as goal

abbrev pub invariant-walk : goal.invariant-walk
invariant-walk l = Going (by_keys (has l.steps)) (has_number l.initial.walked) l.initial.pending.items (has_number l.walked) l.pending.items l.reached

abbrev pub decreases-walk : goal.decreases-walk
decreases-walk l = left (has_number l.walked) l.pending.items
