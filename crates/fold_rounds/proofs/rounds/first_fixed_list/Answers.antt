use Rattle.std.proofs.Common.{◌≡◌, ℕ, ◌≤◌, Bool, length, Some, None, sym, ap, ◌∙◌, subst, arith}
use Rattle.ucd_facts.specs.Facts.{Facts}
use Rattle.ucd_model.specs.FoldRounds.{drop_ignorable, short, short_fold, short_nfkc}
use Rattle.fold_rounds.specs.AlikeProofs.{folded_covered}
use Rattle.fold_rounds.specs.Steps.{IsCovered}
use Rattle.fold_rounds.specs.RoundProofs.{folded_round, found_first_none}
use Rattle.fold_rounds.proofs.rounds.first_fixed_list.Goals as goal

pub fixed_from_folded-requires-clause-first : goal.fixed_from_folded-requires-clause-first
fixed_from_folded-requires-clause-first g c =
    let F : ℕ → Facts = g.W.FactView.facts_of c.args.view.now in
    let few : length c.args.form.now ≤ 255 = omega arith in
    let folds : short_fold c.args.folding F c.args.form.now ≡ Some c.in-Some.folded = cc c.in_ok-folded.ensures in
    λ k covered.
    let same : short_fold k F c.args.form.now ≡ short_fold c.args.folding F c.args.form.now = ap (λ xs. short (drop_ignorable F xs)) (folded_covered c.args.folding k F c.args.form.now (subst (λ (b : Bool). IsCovered c.args.folding b k) c.all_fold_alike-alike.ensures covered)) in
    folded_round k F c.args.c c.args.form.now (Some c.in-Some.folded) c.requires few (same ∙ folds) ∙ ap (short_nfkc F) (sym c.as_slice-in-Some.ensures)

pub returns-in-None : goal.returns-in-None
returns-in-None g c =
    let F : ℕ → Facts = g.W.FactView.facts_of c.args.view.now in
    let few : length c.args.form.now ≤ 255 = omega arith in
    let none : short_fold c.args.folding F c.args.form.now ≡ None = cc c.in_ok-folded.ensures in
    found_first_none c.args.folding F c.args.c (folded_round c.args.folding F c.args.c c.args.form.now None c.requires few none)
