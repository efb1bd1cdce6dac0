use Rattle.std.proofs.Common.{ap, ◌∙◌}
use Rattle.fact_tables.specs.CaseImages.{cases_at}
use Rattle.code_facts.specs.CaseImages.{with_image}
use Rattle.fact_tables.specs.declared.cases.Cases.{Cases}
use Rattle.code_facts.proofs.CaseLemmas.{one_more}
use Rattle.code_facts.proofs.case_rows.put_image.Goals as goal

pub returns : goal.returns
returns c =
    let with = c.put.ensures ∙ ap (λ (k : Cases). with_image c.args.case k c.args.image) c.deref_mut.ensures.value in
    one_more (cases_at c.args.images.now) (cases_at c.take_cases.new.images) (cases_at c.set_cases.new.images) c.args.case c.args.code c.in_ok-cases.cases.value c.put.new.cases c.args.image
    c.in_ok-cases.ensures.taken with c.take_cases.ensures.others c.in_ok-set_cases.ensures
