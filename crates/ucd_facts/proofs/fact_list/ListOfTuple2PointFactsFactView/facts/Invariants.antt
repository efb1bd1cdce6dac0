use Rattle.std.proofs.Common.{◌≡◌, ◌==◌, drop, find}
use Rattle.ucd_facts.proofs.fact_list.ListOfTuple2PointFactsFactView.facts.Given as goal

-- what is found in what is left is what is found in all
abbrev pub invariant-entries : goal.invariant-entries
invariant-entries l = find (λ entry. entry.0 == l.c) (drop l.entry-index l.self) ≡ find (λ entry. entry.0 == l.c) l.self
