use Rattle.std.proofs.Common.{◌≡◌, ℕ, true, take}
use Rattle.fact_tables.specs.Changes.{is_among, is_reached}
use Rattle.fact_tables.proofs.changes.seconds_of.Given as goal

-- the second members of the pairs before this one are put
abbrev pub invariant-pairs : goal.invariant-pairs
invariant-pairs l = (s y : ℕ) → is_reached (take l.pair-index l.pairs) s y ≡ true → is_among l.seconds.items y ≡ true
