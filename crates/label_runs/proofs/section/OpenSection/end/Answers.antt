use Rattle.std.proofs.Common.{◌≡◌, ◌∙◌, ℕ, ◌+◌, List, ◌++◌, ap, codes, decimal}
use Rattle.std.proofs.lemmas.Result.{on_ok_weaker}
use Rattle.ucd_model.specs.DerivedText.{line_end}
use Rattle.label_runs.proofs.SectionLemmas.{section_ends}
use Rattle.label_runs.proofs.section.OpenSection.end.Goals as goal

pub returns : goal.returns
returns c =
    let total : ℕ = c.self.inside.total + c.in_ok-total.field-0 in
    let lines : c.put_total.new.into ≡ _ = c.in_ok-put_total.ensures ∙ ap (λ (t : List ℕ). t ++ codes "# total " ++ decimal total ++ line_end) c.in_ok-total.ensures.line in
    rw (← c.self.view_is) (on_ok_weaker c.append.result (λ (same : c.append.new.self ≡ c.put_total.new.into ++ line_end) f before name written.
    same ∙ ap (λ (t : List ℕ). t ++ line_end) lines ∙ section_ends f before name c.args.text.now _ total written (ap (λ count. c.self.inside.total + count) c.in_ok-total.ensures.length)) c.append.ensures.ok)
