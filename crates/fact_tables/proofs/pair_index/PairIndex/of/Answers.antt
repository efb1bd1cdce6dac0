use Rattle.std.proofs.Common.{ap₂, Bool, ◌&&◌, ◌+◌, ltb}
use Rattle.fact_tables.specs.Index.{pair_key, second_key}
use Rattle.fact_tables.proofs.pair_index.PairIndex.of.Goals as goal

pub returns : goal.returns
returns c a b r = ap₂ (λ (p q : Bool). ltb b 2097152 && (p && q)) (c.of.ensures (pair_key a b + r)) (c.of-2.ensures (second_key b + r))
