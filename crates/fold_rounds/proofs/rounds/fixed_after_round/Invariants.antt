use Rattle.std.proofs.Common.{◌≡◌, ℕ, ◌<◌, false, [], ◌∷◌, Some}
use Rattle.ucd_model.specs.FoldRounds.{rounds, is_last}
use Rattle.ucd_facts.specs.declared.folding.Folding.{Folding}
use Rattle.fold_rounds.specs.Steps.{IsCovered}
use Rattle.fold_rounds.proofs.rounds.fixed_after_round.Given as goal

-- the list is what the rounds so far give, by each folding that is covered, and each list before it was changed by one more round
abbrev pub invariant-rounds : goal.invariant-rounds
invariant-rounds g l = record {
  list : (k : Folding) → IsCovered l.folding l.last.alike k → rounds k (g.W.FactView.facts_of l.view) l.done (l.fn.c ∷ []) ≡ Some l.last.list;
  before : (k : ℕ) → k < l.done → is_last l.folding (g.W.FactView.facts_of l.view) l.fn.c k ≡ false;
}
