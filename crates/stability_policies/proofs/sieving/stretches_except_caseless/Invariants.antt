use Rattle.std.proofs.Common.{◌-◌, ◌≤◌, Decides}
use Rattle.stability_policies.specs.BrokenStretches.{AreOthers, KeepAllForms}
use Rattle.stability_policies.proofs.sieving.stretches_except_caseless.Given as goal

-- the stretches so far are those of the code points so far, and it is told whether these keep what forms rest on
abbrev pub invariant-points : goal.invariant-points
invariant-points g l = record {
  others : AreOthers (g.O.FactView.facts_of l.old) (g.N.FactView.facts_of l.new) l.number l.stretches;
  forms : Decides l.keep_forms (KeepAllForms (g.O.FactView.facts_of l.old) (g.N.FactView.facts_of l.new) l.number);
  within : l.number ≤ 1114112;
}

abbrev pub decreases-points : goal.decreases-points
decreases-points g l = 1114112 - l.number
