use Rattle.stability_policies.proofs.CommonProofs.{forms_new, old_form, same_forms}
use Rattle.stability_policies.proofs.common.common_forms.Goals as goal

pub of-requires : goal.of-requires
of-requires g c =
    old_form (g.O.FactView.facts_of c.args.old.now) (g.N.FactView.facts_of c.args.new.now) c.args.old_rows.now c.args.new_rows.now c.requires.old.facts_are c.requires.new.facts_are c.requires.valid_old c.args.s.now c.requires.assigned

pub returns-clause-new : goal.returns-clause-new
returns-clause-new g c =
    forms_new (g.O.FactView.facts_of c.args.old.now) (g.N.FactView.facts_of c.args.new.now) c.args.s.now c.in_ok-forms.forms
    (same_forms (g.O.FactView.facts_of c.args.old.now) (g.N.FactView.facts_of c.args.new.now) c.args.old_rows.now c.args.new_rows.now c.requires.old.facts_are c.requires.new.facts_are c.requires.valid_old c.args.s.now c.requires.assigned
    c.args.breaks.now c.requires.report c.requires.kept)
    c.in_ok-forms.ensures
