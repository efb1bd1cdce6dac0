use Rattle.std.proofs.Common.{◌≡◌, ℕ, false}
use Rattle.std.specs.List.{list_any}
use Rattle.ucd_facts.specs.Facts.{Facts}
use Rattle.ucd_facts.specs.Expansion.{is_compat}
use Rattle.identifier_closure.proofs.CompatLemmas.{compat_same}
use Rattle.identifier_closure.proofs.point_forms.with_compat.Goals as goal

pub returns-then-not-has_compat : goal.returns-then-not-has_compat
returns-then-not-has_compat g c =
    let F : ℕ → Facts = g.W.FactView.facts_of c.args.view.now in
    let none : list_any (λ x. is_compat (F x).kind) c.args.canonical ≡ false = cc in
    compat_same F c.args.c c.args.canonical c.requires none
