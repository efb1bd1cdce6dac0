use Rattle.std.proofs.Common.{not, ap, ◌∙◌}
use Rattle.std.specs.List.{list_any}
use Rattle.ucd_facts.specs.Facts.{within}
use Rattle.unicodeset_eval.specs.Given.{spans_cover}
use Rattle.unicodeset_eval.proofs.row_sets.uncovered.Goals as goal

pub returns : goal.returns
returns c = λ names rows are x.
    c.complement-set.ensures x
    ∙ ap not (c.in_ok-covered.ensures x)
    ∙ ap (λ spans. not (list_any (within x) spans)) (c.as_slice.ensures.value ∙ c.in_ok-spans.ensures)
    ∙ ap not (spans_cover names x c.args.rows.now rows are)
