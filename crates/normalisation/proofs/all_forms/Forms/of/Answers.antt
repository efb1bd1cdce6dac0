use Rattle.std.proofs.Common.{◌≡◌, ℕ, Err}
use Rattle.ucd_facts.specs.Facts.{Facts}
use Rattle.normalisation.specs.FormValueProofs.{forms_are_together, four_have_forms}
use Rattle.normalisation.specs.FormValues.{four_forms}
use Rattle.normalisation.proofs.all_forms.Forms.of.Goals as goal

pub unreachable-requires : goal.unreachable-requires
unreachable-requires g c =
    let F : ℕ → Facts = g.W.FactView.facts_of c.args.view.now in
    let there = four_have_forms F c.args.s.now c.requires in
    let told : four_forms F c.args.s.now ≡ Err c.in-Err-Bad.field-0-0 = rw c.in-Err-Bad.field-0-is at c.in-Err-Bad.ensures in
    let ok = there.1 in
    absurd cc

pub returns-in-Ok : goal.returns-in-Ok
returns-in-Ok g c = (forms_are_together (g.W.FactView.facts_of c.args.view.now) c.args.s.now c.in-Ok.forms).0 c.in-Ok.ensures
