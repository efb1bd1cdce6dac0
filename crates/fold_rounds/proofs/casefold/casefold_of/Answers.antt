use Rattle.std.proofs.Common.{◌≡◌, ℕ, [], ◌∷◌, Ok, refl, ap, sym, ◌∙◌}
use Rattle.ucd_facts.specs.Facts.{Facts}
use Rattle.ucd_facts.specs.declared.image.Image.{Image}
use Rattle.ucd_model.specs.Forms.{nfkc}
use Rattle.ucd_facts.specs.Predicates.{default_ignorable}
use Rattle.ucd_facts.specs.Shown.{shown_facts}
use Rattle.fold_rounds.specs.RoundProofs.{alone_form, alone_image, unfolded, ignored}
use Rattle.fold_rounds.proofs.casefold.casefold_of.Goals as goal

pub returns-then-same_points : goal.returns-then-same_points
returns-then-same_points g c =
    let F : ℕ → Facts = g.W.FactView.facts_of c.args.view.now in
    let form : nfkc F (c.args.c ∷ []) ≡ Ok (c.args.c ∷ []) = alone_form F c.args.c c.args.form.now c.requires.form (sym c.same_points.ensures ∙ c.if-same_points.true) in
    let ignorable = default_ignorable c.args.c (shown_facts c.args.facts.now) in
    λ k covered.
    alone_image k F c.args.c form (unfolded k F c.args.c c.args.facts.now c.requires.facts (sym c.folds_to_itself.ensures ∙ c.if-folds_to_itself.true)) ignorable (ignored F c.args.c c.args.facts.now ignorable c.requires.facts refl)
    ∙ ap (λ (i : Image). Ok i) (sym c.kept_or_dropped.ensures)
