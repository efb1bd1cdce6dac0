use Rattle.std.proofs.Common.{◌≡◌, drop}
use Rattle.ucd_model.specs.Casing.{lower, upper, fold}
use Rattle.case_derivation.specs.Matching.{matches}
use Rattle.case_derivation.specs.Steps.{titled}
use Rattle.case_derivation.proofs.changes.changes_after.Given as goal

-- what is left is matched by the images of the later members exactly where all was by those of all
abbrev pub invariant-members : goal.invariant-members
invariant-members g l = record {
  lowered : matches l.left.lowered (lower (g.W.FactView.facts_of l.view) (drop l.c-index l.s)) ≡ matches l.initial.left.lowered (lower (g.W.FactView.facts_of l.view) l.s);
  uppered : matches l.left.uppered (upper (g.W.FactView.facts_of l.view) (drop l.c-index l.s)) ≡ matches l.initial.left.uppered (upper (g.W.FactView.facts_of l.view) l.s);
  titled : matches l.left.titled (titled (g.W.FactView.facts_of l.view) l.left.begun (drop l.c-index l.s)) ≡ matches l.initial.left.titled (titled (g.W.FactView.facts_of l.view) l.initial.left.begun l.s);
  folded : matches l.left.folded (fold (g.W.FactView.facts_of l.view) (drop l.c-index l.s)) ≡ matches l.initial.left.folded (fold (g.W.FactView.facts_of l.view) l.s);
}
