use Rattle.std.proofs.Common.{◌≡◌, ℕ, Bool, true, Option, Some, None, refl, sym, ap, ◌∙◌, subst, arith, inl, bytes_eq}
use Rattle.ucd_facts.specs.Facts.{Facts}
use Rattle.ucd_model.specs.FoldRounds.{round}
use Rattle.fold_rounds.specs.AlikeProofs.{covered_both}
use Rattle.fold_rounds.specs.Steps.{FoundBy, IsCovered}
use Rattle.fold_rounds.specs.declared.rounds.Found.{Found}
use Rattle.fold_rounds.specs.RoundProofs.{found_stop, found_same, found_none}
use Rattle.fold_rounds.proofs.rounds.fixed_after_round.Goals as goal

pub returns-in_default : goal.returns-in_default
returns-in_default g c =
    let F : ℕ → Facts = g.W.FactView.facts_of c.args.view.now in
    let next = subst (λ (r : Option Found). FoundBy c.args.folding (λ k. round k F c.as_slice-in-rounds.result.now) r) c.in_default.is c.in_ok-found.ensures in
    let stops : round c.args.folding F c.rounds.last.list ≡ None = ap (round c.args.folding F) (sym c.as_slice-in-rounds.ensures) ∙ next in
    found_stop c.args.folding F c.args.c c.rounds.done c.rounds.last.list (c.rounds.invariant.list c.args.folding (inl refl)) stops c.rounds.invariant.before

pub returns-then-same_points-2 : goal.returns-then-same_points-2
returns-then-same_points-2 g c =
    let F : ℕ → Facts = g.W.FactView.facts_of c.args.view.now in
    let found = subst (λ (r : Option Found). FoundBy c.args.folding (λ k. round k F c.as_slice-in-rounds.result.now) r) c.in-Some.is c.in_ok-found.ensures in
    let same : bytes_eq c.alike_only_if-next.result.list c.rounds.last.list ≡ true = cc in
    λ k covered.
    let both = covered_both c.args.folding k c.rounds.last.alike c.in-Some.found.alike (subst (λ (b : Bool). IsCovered c.args.folding b k) c.alike_only_if-next.ensures.alike covered) in
    let next : round k F c.rounds.last.list ≡ Some c.alike_only_if-next.result.list = ap (round k F) (sym c.as_slice-in-rounds.ensures) ∙ found k both.1 ∙ ap (λ xs. Some xs) (sym c.alike_only_if-next.ensures.list) in
    found_same k F c.args.c c.rounds.done c.rounds.last.list c.alike_only_if-next.result.list (omega arith) (c.rounds.invariant.list k both.0) next same

pub returns : goal.returns
returns g c =
    let F : ℕ → Facts = g.W.FactView.facts_of c.args.view.now in
    found_none c.args.folding F c.args.c (λ k lt. c.rounds.invariant.before k (omega arith))
