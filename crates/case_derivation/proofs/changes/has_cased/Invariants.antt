use Rattle.std.proofs.Common.{◌≡◌, drop}
use Rattle.std.specs.List.{list_any}
use Rattle.ucd_facts.specs.Predicates.{cased}
use Rattle.case_derivation.proofs.changes.has_cased.Given as goal

-- what holds of those that are left is what holds of all
abbrev pub invariant-members : goal.invariant-members
invariant-members g l =
    list_any (λ x. cased (g.W.FactView.facts_of l.view x)) (drop l.c-index l.s) ≡ list_any (λ x. cased (g.W.FactView.facts_of l.view x)) l.s
