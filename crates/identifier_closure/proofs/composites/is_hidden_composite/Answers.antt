use Rattle.std.proofs.Common.{sym}
use Rattle.ucd_facts.specs.Shown.{shown_facts}
use Rattle.identifier_closure.proofs.HiddenLemmas.{form_shown}
use Rattle.identifier_closure.proofs.composites.is_hidden_composite.Goals as goal

pub returns-then-is_alone : goal.returns-then-is_alone
returns-then-is_alone g c =
    sym (form_shown (g.W.FactView.facts_of c.args.view.now) c.args.c c.args.form.now (shown_facts c.args.facts.now) c.requires.form (c.is_alone.ensures c.if-is_alone.true) c.requires.facts)
