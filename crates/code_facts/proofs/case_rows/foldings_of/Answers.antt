use Rattle.std.proofs.Common.{◌<◌, length, ◌∙◌, arith}
use Rattle.fact_tables.specs.CaseImages.{cases_at}
use Rattle.code_facts.proofs.CaseLemmas.{foldings_put}
use Rattle.code_facts.proofs.case_rows.foldings_of.Goals as goal

pub rows-preserved : goal.rows-preserved
rows-preserved c =
    let rows = c.args.rows.now in
    let i = c.rows.text-index in
    let inside : i < length rows = omega arith in
    let is = c.row.ensures ∙ c.text-item.is in
    foldings_put rows i c.text-item.result _ (cases_at c.rows.images) (cases_at c.put_foldings.new.images) inside is c.rows.invariant c.in_ok-put_foldings.ensures
