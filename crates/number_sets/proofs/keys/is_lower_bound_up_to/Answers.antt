use Rattle.std.proofs.lemmas.Bool.{leb-true}
use Rattle.number_sets.proofs.KeyLemmas.{before_all}
use Rattle.number_sets.proofs.keys.is_lower_bound_up_to.Goals as goal

pub returns-else-end-sorted : goal.returns-else-end-sorted
returns-else-end-sorted c = λ high. before_all c.args.sorted.now c.args.start c.args.end c.requires.ascends (leb-true _ _ high)
