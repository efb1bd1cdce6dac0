use Rattle.std.proofs.Common.{◌≡◌, ◌-◌, ◌++◌, [], ◌∷◌, true, false, Some}
use Rattle.ucd_model.specs.Forms.{nfkc}
use Rattle.ucd_facts.specs.declared.folding.Folding.{Folding}
use Rattle.fold_rounds.specs.Steps.{IsCovered}
use Rattle.point_queries.specs.Forms.{list_in}
use Rattle.point_queries.specs.KnownForms.{puts_from}
use Rattle.point_queries.proofs.rounds.put_rounds.Given as goal

-- what the rounds that are left ask by each folding that is covered, behind what is asked so far, is what all gives; and a list
-- that is known is its own NFKC
abbrev pub invariant-rounds : goal.invariant-rounds
invariant-rounds g l =
    ((k : Folding) → IsCovered l.folding l.alike k → l.asked.items ++ puts_from k (g.W.FactView.facts_of l.view) (8 - l.done) l.known l.list ≡ l.initial.asked.items ++ puts_from k (g.W.FactView.facts_of l.view) 8 false (l.fn.c ∷ []))
    × (l.known ≡ true → Some l.list ≡ list_in (nfkc (g.W.FactView.facts_of l.view) l.list))
