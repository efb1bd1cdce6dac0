use Rattle.std.proofs.Common.{◌∙◌, ◌-◌, ℕ, Bool, List, sym, ap}
use Rattle.std.specs.List.{list_any}
use Rattle.std.proofs.Math.ListN.{drop_of_length-le}
use Rattle.std.proofs.lemmas.List.Folds.{list_any_at}
use Rattle.ucd_facts.specs.Facts.{Facts}
use Rattle.ucd_facts.specs.Expansion.{is_compat}
use Rattle.point_queries.specs.Compat.{has_compat, compat_here, compat_there, compat_nowhere}
use Rattle.point_queries.proofs.trees.+has_compat_within.Goals as goal

pub returns-then-is_compat : goal.returns-then-is_compat
returns-then-is_compat g t c =
    compat_here (g.W.FactView.facts_of c.args.view.now) c.args.levels c.args.c c.if-levels-eq0.false (ap is_compat (sym c.kind.ensures) ∙ sym c.is_compat.ensures ∙ c.if-is_compat.true)

pub returns-then-has_compat_within : goal.returns-then-has_compat_within
returns-then-has_compat_within g t c =
    let F : ℕ → Facts = g.W.FactView.facts_of c.args.view.now in
    let members : List ℕ = c.mapping_if_counted-mapping.result.now in
    let below : ℕ → Bool = has_compat F (c.args.levels - 1) in
    compat_there F c.args.levels c.args.c members c.if-levels-eq0.false c.mapping_if_counted-mapping.ensures
    (list_any_at below members c.members.member-index c.member-item.result c.members-test.true (ap below (sym c.member-item.is) ∙ sym c.has_compat_within.ensures ∙ c.if-has_compat_within.true))

pub returns : goal.returns
returns g t c =
    let F : ℕ → Facts = g.W.FactView.facts_of c.args.view.now in
    let members : List ℕ = c.mapping_if_counted-mapping.result.now in
    compat_nowhere F c.args.levels c.args.c members c.if-levels-eq0.false (ap is_compat (sym c.kind.ensures) ∙ sym c.is_compat.ensures ∙ c.if-is_compat.false) c.mapping_if_counted-mapping.ensures
    (sym c.members.invariant ∙ ap (list_any (has_compat F (c.args.levels - 1))) (drop_of_length-le members c.members-test.false))
