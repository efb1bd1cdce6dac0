use Rattle.std.proofs.Common.{◌≡◌, drop, take, bytes_eq}
use Rattle.std.specs.List.{list_any}
use Rattle.ucd_model.specs.Casing.{lower, upper, title, fold}
use Rattle.ucd_facts.specs.Predicates.{cased}
use Rattle.case_derivation.specs.Steps.{titled}
use Rattle.case_derivation.proofs.changes.changes_when.Given as goal

-- the members so far stay, so that all changes exactly where what is left does
abbrev pub invariant-unmapped : goal.invariant-unmapped
invariant-unmapped g l = record {
  lowered : bytes_eq (lower (g.W.FactView.facts_of l.view) (drop l.at l.nfd)) (drop l.at l.nfd) ≡ bytes_eq (lower (g.W.FactView.facts_of l.view) l.nfd) l.nfd;
  uppered : bytes_eq (upper (g.W.FactView.facts_of l.view) (drop l.at l.nfd)) (drop l.at l.nfd) ≡ bytes_eq (upper (g.W.FactView.facts_of l.view) l.nfd) l.nfd;
  titled : bytes_eq (titled (g.W.FactView.facts_of l.view) (list_any (λ x. cased (g.W.FactView.facts_of l.view x)) (take l.at l.nfd)) (drop l.at l.nfd)) (drop l.at l.nfd) ≡ bytes_eq (title (g.W.FactView.facts_of l.view) l.nfd) l.nfd;
  folded : bytes_eq (fold (g.W.FactView.facts_of l.view) (drop l.at l.nfd)) (drop l.at l.nfd) ≡ bytes_eq (fold (g.W.FactView.facts_of l.view) l.nfd) l.nfd;
}
