use Rattle.std.proofs.Common.{refl}
use Rattle.ucd_facts.specs.declared.property.Core.TheVariants.{IdStart, IdContinue, XidStart, XidContinue}
use Rattle.stability_policies.specs.declared.policy.Policy.TheVariants.{P06, P07, P08, P09}
use Rattle.stability_policies.proofs.TestLemmas.{lost_core}
use Rattle.stability_policies.proofs.testing.is_broken.Goals as goal

pub returns-in-P06 : goal.returns-in-P06
returns-in-P06 g c other =
    lost_core c.args.policy P06 (g.O.FactView.facts_of c.args.old.now) (g.N.FactView.facts_of c.args.new.now) c.args.c c.args.x c.args.y IdStart c.loses_core-broken.result
    c.in-P06.is refl c.requires.old_core c.requires.new_core c.loses_core-broken.ensures

pub returns-in-P07 : goal.returns-in-P07
returns-in-P07 g c other =
    lost_core c.args.policy P07 (g.O.FactView.facts_of c.args.old.now) (g.N.FactView.facts_of c.args.new.now) c.args.c c.args.x c.args.y IdContinue c.loses_core-broken-in-P07.result
    c.in-P07.is refl c.requires.old_core c.requires.new_core c.loses_core-broken-in-P07.ensures

pub returns-in-P08 : goal.returns-in-P08
returns-in-P08 g c other =
    lost_core c.args.policy P08 (g.O.FactView.facts_of c.args.old.now) (g.N.FactView.facts_of c.args.new.now) c.args.c c.args.x c.args.y XidStart c.loses_core-broken-in-P08.result
    c.in-P08.is refl c.requires.old_core c.requires.new_core c.loses_core-broken-in-P08.ensures

pub returns-in-P09 : goal.returns-in-P09
returns-in-P09 g c other =
    lost_core c.args.policy P09 (g.O.FactView.facts_of c.args.old.now) (g.N.FactView.facts_of c.args.new.now) c.args.c c.args.x c.args.y XidContinue c.loses_core-broken-in-P09.result
    c.in-P09.is refl c.requires.old_core c.requires.new_core c.loses_core-broken-in-P09.ensures
