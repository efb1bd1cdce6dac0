use Rattle.std.proofs.Common.{◌<◌, length, ◌∙◌, arith}
use Rattle.fact_tables.specs.CaseImages.{cases_at}
use Rattle.code_facts.proofs.CaseLemmas.{casings_put}
use Rattle.code_facts.proofs.case_rows.casings_over.Goals as goal

pub rows-preserved : goal.rows-preserved
rows-preserved c given before =
    let rows = c.args.rows.now in
    let i = c.rows.text-index in
    let inside : i < length rows = omega arith in
    let is = c.row.ensures ∙ c.text-item.is in
    casings_put given rows i c.text-item.result _ (cases_at c.rows.images) (cases_at c.put_casings.new.images) inside is (c.rows.invariant given before) c.in_ok-put_casings.ensures
