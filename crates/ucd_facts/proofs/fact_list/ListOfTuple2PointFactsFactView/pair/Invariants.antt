use Rattle.std.proofs.Common.{◌≡◌, ℕ, ◌<◌, false}
use Rattle.ucd_facts.specs.Composites.{composes}
use Rattle.ucd_facts.specs.FactList.{facts_in}
use Rattle.ucd_facts.proofs.fact_list.ListOfTuple2PointFactsFactView.pair.Given as goal

-- no point so far
abbrev pub invariant-points : goal.invariant-points
invariant-points l = (k : ℕ) → k < l.number → composes (facts_in l.self) l.s l.y k ≡ false
