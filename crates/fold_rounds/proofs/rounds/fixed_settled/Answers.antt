use Rattle.std.proofs.Common.{◌≡◌, ℕ, Some, sym, ap, ◌∙◌}
use Rattle.ucd_facts.specs.Facts.{Facts}
use Rattle.fold_rounds.specs.RoundProofs.{found_form, settled_round}
use Rattle.fold_rounds.proofs.rounds.fixed_settled.Goals as goal

pub fixed_from_folded-requires-clause-first : goal.fixed_from_folded-requires-clause-first
fixed_from_folded-requires-clause-first g c =
    λ k covered. settled_round k (g.W.FactView.facts_of c.args.view.now) c.args.c c.args.form.now c.requires.form c.requires.few c.requires.settled

pub returns : goal.returns
returns g c =
    let F : ℕ → Facts = g.W.FactView.facts_of c.args.view.now in
    λ k covered.
    found_form k F c.args.c c.args.form.now c.requires.form c.requires.few c.requires.settled (sym c.has_canonical_mapping.ensures ∙ c.if-has_canonical_mapping.false) ∙ ap (λ xs. Some xs) (sym c.in_ok-list.ensures)
