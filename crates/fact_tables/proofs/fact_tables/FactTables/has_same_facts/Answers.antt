use Rattle.std.proofs.Common.{sym, ◌∙◌}
use Rattle.fact_tables.proofs.fact_tables.FactTables.has_same_facts.Goals as goal

pub returns : goal.returns
returns g c =
    let t = c.args.self.now in
    let now = c.facts_in-now.ensures in
    let next = c.facts_in-next.ensures in
    (λ is. sym now ∙ c.same_facts.ensures.0 is ∙ next, λ e. c.same_facts.ensures.1 (now ∙ e ∙ sym next))
