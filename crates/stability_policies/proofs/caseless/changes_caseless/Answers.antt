use Rattle.std.proofs.Common.{sym}
use Rattle.ucd_facts.specs.Shown.{shown_facts}
use Rattle.stability_policies.proofs.PlainLemmas.{plain_caseless}
use Rattle.stability_policies.proofs.caseless.changes_caseless.Goals as goal

pub returns : goal.returns
returns g c =
    plain_caseless (g.O.FactView.facts_of c.args.old.now) (g.N.FactView.facts_of c.args.new.now) c.args.c (shown_facts c.args.a.now) (shown_facts c.args.b.now) c.has_same_folding.result
    c.requires.old c.requires.new (sym c.if-has_mapping.ensures) (sym c.if-has_mapping-2.ensures) c.has_same_folding.ensures c.if-not-a.false
