use Rattle.std.proofs.Common.{◌≡◌, ℕ, List, ◌++◌, codes, ap, sym, ◌∙◌, append_assoc, decimal}
use Rattle.ucd_model.specs.DerivedText.{line_end}
use Rattle.ucdshop_more_core.proofs.summary_lines.undo_summary.Goals as goal

pub returns : goal.returns
returns c =
    let counted : c.put_decimal.new.into ≡ codes "undo: " ++ decimal c.args.accepted =
    c.in_ok-put_decimal.ensures.ok ∙ ap (λ (t : List ℕ). t ++ decimal c.args.accepted) (c.in_ok-append.ensures.ok ∙ ap (λ (t : List ℕ). t ++ codes "undo: ") c.new-text.ensures) in
    let undone : c.put_decimal-2.new.into ≡ codes "undo: " ++ decimal c.args.accepted ++ codes " accepted, " ++ decimal c.args.undone =
    c.in_ok-put_decimal-2.ensures.ok ∙ ap (λ (t : List ℕ). t ++ decimal c.args.undone) (c.in_ok-append-2.ensures.ok ∙ ap (λ (t : List ℕ). t ++ codes " accepted, ") counted) in
    c.in_ok-append-3.ensures.ok ∙ ap (λ (t : List ℕ). t ++ (codes " undone" ++ line_end)) undone
    ∙ sym (append_assoc (codes "undo: " ++ decimal c.args.accepted ++ codes " accepted, " ++ decimal c.args.undone) (codes " undone") line_end)
