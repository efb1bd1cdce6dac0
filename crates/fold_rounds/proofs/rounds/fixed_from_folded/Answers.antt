use Rattle.std.proofs.Common.{◌≡◌, ℕ, true, Some, None, refl, sym, ◌∙◌, inl, bytes_eq}
use Rattle.ucd_facts.specs.Facts.{Facts}
use Rattle.ucd_model.specs.FoldRounds.{short_nfkc}
use Rattle.fold_rounds.specs.RoundProofs.{found_first_none, found_settled}
use Rattle.fold_rounds.proofs.rounds.fixed_from_folded.Goals as goal

pub returns-in_default : goal.returns-in_default
returns-in_default g c =
    let F : ℕ → Facts = g.W.FactView.facts_of c.args.view.now in
    let none : short_nfkc F c.args.folded.now ≡ None = cc c.in_ok-list.ensures in
    found_first_none c.args.folding F c.args.c (c.requires.first c.args.folding (inl refl) ∙ none)

pub returns-then-same_points : goal.returns-then-same_points
returns-then-same_points g c =
    let F : ℕ → Facts = g.W.FactView.facts_of c.args.view.now in
    let forms : short_nfkc F c.args.folded.now ≡ Some c.in-Some.list = cc c.in_ok-list.ensures in
    let same : bytes_eq c.in-Some.list c.args.folded.now ≡ true = cc in
    λ k covered. found_settled k F c.args.c c.args.folded.now c.in-Some.list (c.requires.first k covered ∙ forms) forms (sym c.requires.settled ∙ c.if-settled.true) same
