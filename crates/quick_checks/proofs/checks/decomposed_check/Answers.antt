use Rattle.std.proofs.Common.{◌≡◌, ℕ, Result, Ok, ap, sym, ◌∙◌}
use Rattle.ucd_facts.specs.Facts.{Facts}
use Rattle.ucd_facts.specs.Expansion.{counts}
use Rattle.ucd_facts.specs.declared.form.Bad.{Bad as Rule}
use Rattle.ucd_facts.specs.declared.form.Quick.{Quick}
use Rattle.quick_checks.specs.Checks.{quick_decomposed}
use Rattle.quick_checks.specs.CheckProofs.{check_alone, check_expanded}
use Rattle.quick_checks.proofs.checks.decomposed_check.Goals as goal
use Rattle.quick_checks.proofs.checks.decomposed_check.Goals.{then-counts+in_ok-expand, else-counts}

pub returns : goal.returns
returns g c =
    let F : ℕ → Facts = g.W.FactView.facts_of c.args.view.now in
    let told : ◌≡◌ {A = Result Quick Rule} (Ok (quick_decomposed (F c.args.c).kind c.args.compat)) (Ok c.quick_decomposed.result) = ap (λ q. Ok q) (sym (c.quick_decomposed.ensures ∙ ap (λ k. quick_decomposed k c.args.compat) c.kind-kind.ensures)) in
    elim c.if-counts.branch [
      | then-counts+in_ok-expand w ↦ check_expanded F c.args.compat c.args.c w.in_ok-expand.field-0 w.in_ok-expand.ensures ∙ told
      | else-counts w ↦ check_alone F c.args.compat c.args.c (sym (c.counts.ensures ∙ ap (counts c.args.compat) c.kind-kind.ensures) ∙ w.if-counts.false) ∙ told
    ]
