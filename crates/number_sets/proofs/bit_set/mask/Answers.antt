use Rattle.number_sets.proofs.BitLemmas.{mask_bit}
use Rattle.number_sets.proofs.bit_set.mask.Goals as goal

pub returns : goal.returns
returns c = mask_bit c.args.place c.args.first c.args.last c.saturating_sub-from.result c.min-to.result c.saturating_sub-from.ensures c.min-to.ensures c.requires.from c.requires.to
