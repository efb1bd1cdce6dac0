use Rattle.std.proofs.Common.{◌≡◌, ℕ, false, Ok, ap, sym, ◌∙◌}
use Rattle.ucd_facts.specs.Facts.{Facts}
use Rattle.ucd_facts.specs.Expansion.{counts}
use Rattle.quick_checks.specs.CheckProofs.{composed_check_alone}
use Rattle.quick_checks.proofs.checks.composed_check.Goals as goal

pub returns-then-not-counts : goal.returns-then-not-counts
returns-then-not-counts g c =
    let F : ℕ → Facts = g.W.FactView.facts_of c.args.view.now in
    let test : counts c.args.compat (F c.args.c).kind ≡ false = sym (c.counts.ensures ∙ ap (counts c.args.compat) c.kind.ensures) ∙ c.if-not-counts.true in
    composed_check_alone F c.args.compat c.args.c test ∙ ap (λ q. Ok q) (sym c.quick_composed.ensures)
