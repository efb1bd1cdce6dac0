use Rattle.std.proofs.Common.{not}
use Rattle.std.proofs.lemmas.List.Filters.{FiltersInPlace}
use Rattle.ucd_facts.specs.Predicates.{default_ignorable}
use Rattle.fold_rounds.proofs.ignorable.drop_ignorable.Given as goal

abbrev pub invariant-points : goal.invariant-points
invariant-points g l = FiltersInPlace (λ x. not (default_ignorable x (g.W.FactView.facts_of l.view x))) l.initial.s l.s l.kept l.at
