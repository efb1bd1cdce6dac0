use Rattle.std.proofs.Common.{◌≡◌, ℕ, List, ◌++◌, codes, ap, sym, ◌∙◌, append_assoc, decimal}
use Rattle.ucd_model.specs.DerivedText.{line_end}
use Rattle.ucdshop_more_core.proofs.summary_lines.conform_summary.Goals as goal

pub returns : goal.returns
returns c =
    let counted : c.put_decimal.new.into ≡ codes "conform: " ++ decimal c.args.cases =
    c.in_ok-put_decimal.ensures.ok ∙ ap (λ (t : List ℕ). t ++ decimal c.args.cases) (c.in_ok-append.ensures.ok ∙ ap (λ (t : List ℕ). t ++ codes "conform: ") c.new-text.ensures) in
    let missed : c.put_decimal-2.new.into ≡ codes "conform: " ++ decimal c.args.cases ++ codes " cases, " ++ decimal c.args.misses =
    c.in_ok-put_decimal-2.ensures.ok ∙ ap (λ (t : List ℕ). t ++ decimal c.args.misses) (c.in_ok-append-2.ensures.ok ∙ ap (λ (t : List ℕ). t ++ codes " cases, ") counted) in
    c.in_ok-append-3.ensures.ok ∙ ap (λ (t : List ℕ). t ++ (codes " misses" ++ line_end)) missed
    ∙ sym (append_assoc (codes "conform: " ++ decimal c.args.cases ++ codes " cases, " ++ decimal c.args.misses) (codes " misses") line_end)
