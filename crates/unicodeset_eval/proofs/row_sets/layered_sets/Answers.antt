use Rattle.std.proofs.Common.{ap, ◌∙◌}
use Rattle.std.specs.List.{list_any}
use Rattle.ucd_facts.specs.Facts.{within}
use Rattle.unicodeset_eval.specs.Numbers.{bucket}
use Rattle.unicodeset_eval.proofs.row_sets.layered_sets.Goals as goal

pub returns : goal.returns
returns c = λ default rows are apart i x lt.
    c.in_ok-sets.ensures.has i x
    ∙ ap (λ spans. list_any (within x) (bucket spans i)) c.as_slice.ensures.value
    ∙ c.in_ok-buckets.ensures default rows are apart i x lt
