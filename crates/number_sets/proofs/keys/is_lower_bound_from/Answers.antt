use Rattle.std.proofs.Common.{◌-◌, arith, ltb-true}
use Rattle.number_sets.proofs.KeyLemmas.{behind_all}
use Rattle.number_sets.proofs.keys.is_lower_bound_from.Goals as goal

pub returns-else-begin-eq0 : goal.returns-else-begin-eq0
returns-else-begin-eq0 c = λ low i d lt.
    let within = c.requires.within in
    behind_all c.args.sorted.now c.args.start (c.args.begin - 1) c.requires.ascends (omega arith) (ltb-true _ _ low) i d (omega arith)
