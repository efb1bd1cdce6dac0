use Rattle.std.proofs.Common.{sym, ◌∙◌}
use Rattle.identifier_closure.proofs.RecordLemmas.{valid}
use Rattle.identifier_closure.proofs.derivation.record_with_forms.Goals as goal

pub returns-in-Ok : goal.returns-in-Ok
returns-in-Ok g c =
    valid (g.W.FactView.facts_of c.args.view.now) c.args.c c.args.facts.now c.in-Ok.found.full c.in-Ok.found.simple c.record_of.result c.requires.facts c.requires.rows c.requires.expansions
    (sym c.is_hidden_composite.ensures ∙ c.if-is_hidden_composite.false) c.in-Ok.ensures.0 c.in-Ok.ensures.1 c.record_of.ensures
