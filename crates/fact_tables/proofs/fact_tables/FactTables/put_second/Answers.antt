use Rattle.std.proofs.lemmas.Result.{on_ok_weaker}
use Rattle.ucd_facts.specs.Composites.{second_of}
use Rattle.ucd_facts.specs.declared.query.Query.TheVariants.{Second}
use Rattle.fact_tables.specs.FactTables.{facts_at}
use Rattle.fact_tables.specs.declared.now_or_next.NowOrNext.TheVariants.{Now, Next}
use Rattle.fact_tables.proofs.ChangeLemmas.{gathers_put, told_put, decides_via}
use Rattle.fact_tables.proofs.fact_tables.FactTables.put_second.Goals as goal

pub returns-clause-gathers : goal.returns-clause-gathers
returns-clause-gathers g c =
    let t = c.args.self.now in
    let decides = decides_via c.is_same_answer-same.result c.is_second-now.result c.is_second-next.result (second_of (facts_at Now t) c.args.y) (second_of (facts_at Next t) c.args.y) c.is_second-now.ensures c.is_second-next.ensures c.is_same_answer-same.ensures in
    on_ok_weaker c.put_unless.result (λ e. gathers_put (facts_at Now t) (facts_at Next t) c.args.queries.now.items c.put_unless.new.queries.items (Second c.args.y) c.is_same_answer-same.result decides e) c.put_unless.ensures

pub returns-clause-told : goal.returns-clause-told
returns-clause-told g c =
    let t = c.args.self.now in
    let decides = decides_via c.is_same_answer-same.result c.is_second-now.result c.is_second-next.result (second_of (facts_at Now t) c.args.y) (second_of (facts_at Next t) c.args.y) c.is_second-now.ensures c.is_second-next.ensures c.is_same_answer-same.ensures in
    on_ok_weaker c.put_unless.result (λ e. told_put (facts_at Now t) (facts_at Next t) c.args.queries.now.items c.put_unless.new.queries.items (Second c.args.y) c.is_same_answer-same.result decides e) c.put_unless.ensures
