use Rattle.std.proofs.Common.{refl}
use Rattle.age_chain.proofs.ChainLemmas.{none_aged}
use Rattle.age_chain.proofs.chain.Chain.new.Goals as goal

pub returns : goal.returns
returns c = record { count = refl; last = refl; ages = none_aged _ c.in_ok-filled.ensures.now }
