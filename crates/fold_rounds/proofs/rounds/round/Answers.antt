use Rattle.std.proofs.Common.{◌≡◌, ℕ, Bool, Some, ap, ◌∙◌, subst}
use Rattle.ucd_facts.specs.Facts.{Facts}
use Rattle.ucd_model.specs.FoldRounds.{short_nfkc}
use Rattle.fold_rounds.specs.AlikeProofs.{round_covered}
use Rattle.fold_rounds.specs.Steps.{folded_form, are_alike, IsCovered}
use Rattle.fold_rounds.proofs.rounds.round.Goals as goal

pub returns-in-Some-2 : goal.returns-in-Some-2
returns-in-Some-2 g c =
    let F : ℕ → Facts = g.W.FactView.facts_of c.args.view.now in
    let form : short_nfkc F c.args.s.now ≡ Some c.in-Some.form = cc c.in_ok-form.ensures in
    let folds : folded_form c.args.folding F c.in-Some.form ≡ Some c.in-Some-2.list = cc c.in_ok-list.ensures in
    let alike : c.all_fold_alike-alike.result ≡ are_alike F c.in-Some.form = c.all_fold_alike-alike.ensures ∙ ap (are_alike F) c.as_slice.ensures in
    λ k covered. round_covered c.args.folding k F c.args.s.now c.in-Some.form c.in-Some-2.list (subst (λ (b : Bool). IsCovered c.args.folding b k) alike covered) form folds
