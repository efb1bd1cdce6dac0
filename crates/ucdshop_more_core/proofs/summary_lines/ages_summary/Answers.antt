use Rattle.std.proofs.Common.{◌≡◌, ℕ, List, ◌++◌, codes, ap, sym, ◌∙◌, append_assoc, decimal}
use Rattle.ucd_model.specs.DerivedText.{line_end}
use Rattle.ucdshop_more_core.proofs.summary_lines.ages_summary.Goals as goal

pub returns : goal.returns
returns c =
    let counted : c.put_decimal.new.into ≡ codes "ages: " ++ decimal c.args.counts.releases =
    c.in_ok-put_decimal.ensures.ok ∙ ap (λ (t : List ℕ). t ++ decimal c.args.counts.releases) (c.in_ok-append.ensures.ok ∙ ap (λ (t : List ℕ). t ++ codes "ages: ") c.new-text.ensures) in
    let listed : c.put_decimal-2.new.into ≡ codes "ages: " ++ decimal c.args.counts.releases ++ codes " releases, " ++ decimal c.args.counts.points =
    c.in_ok-put_decimal-2.ensures.ok ∙ ap (λ (t : List ℕ). t ++ decimal c.args.counts.points) (c.in_ok-append-2.ensures.ok ∙ ap (λ (t : List ℕ). t ++ codes " releases, ") counted) in
    let broken : c.put_decimal-3.new.into ≡ codes "ages: " ++ decimal c.args.counts.releases ++ codes " releases, " ++ decimal c.args.counts.points ++ codes " code points, " ++ decimal c.args.counts.breaks =
    c.in_ok-put_decimal-3.ensures.ok ∙ ap (λ (t : List ℕ). t ++ decimal c.args.counts.breaks) (c.in_ok-append-3.ensures.ok ∙ ap (λ (t : List ℕ). t ++ codes " code points, ") listed) in
    c.in_ok-append-4.ensures.ok ∙ ap (λ (t : List ℕ). t ++ (codes " breaks" ++ line_end)) broken
    ∙ sym (append_assoc (codes "ages: " ++ decimal c.args.counts.releases ++ codes " releases, " ++ decimal c.args.counts.points ++ codes " code points, " ++ decimal c.args.counts.breaks) (codes " breaks") line_end)
