use Rattle.std.proofs.Common.{ℕ, List, ap, ◌∙◌}
use Rattle.property_aliases.specs.Sources.{value_rows}
use Rattle.unicodeset_eval.specs.Given.{given}
use Rattle.unicodeset_eval.specs.RowSetLaws.{listed_is}
use Rattle.unicodeset_eval.proofs.row_sets.listed_sets.Goals as goal

pub returns : goal.returns
returns c = λ rows are i x.
    c.in_ok-sets.ensures.has (value_rows rows) are.rows_are i x ∙ ap (λ (names : List (List ℕ)). given names (value_rows rows) i x) are.names_are ∙ listed_is rows i x
