use Rattle.std.proofs.lemmas.Result.{on_ok_weaker}
use Rattle.ucd_facts.specs.declared.query.Query.TheVariants.{Row}
use Rattle.fact_tables.specs.FactTables.{facts_at}
use Rattle.fact_tables.specs.declared.now_or_next.NowOrNext.TheVariants.{Now, Next}
use Rattle.fact_tables.proofs.ChangeLemmas.{gathers_put, told_put}
use Rattle.fact_tables.proofs.fact_tables.FactTables.put_row_query.Goals as goal

pub returns-clause-gathers : goal.returns-clause-gathers
returns-clause-gathers g c =
    let t = c.args.self.now in
    on_ok_weaker c.put_unless.result (λ e. gathers_put (facts_at Now t) (facts_at Next t) c.args.queries.now.items c.put_unless.new.queries.items (Row c.args.c) c.has_same_facts-same.result c.has_same_facts-same.ensures e) c.put_unless.ensures

pub returns-clause-told : goal.returns-clause-told
returns-clause-told g c =
    let t = c.args.self.now in
    on_ok_weaker c.put_unless.result (λ e. told_put (facts_at Now t) (facts_at Next t) c.args.queries.now.items c.put_unless.new.queries.items (Row c.args.c) c.has_same_facts-same.result c.has_same_facts-same.ensures e) c.put_unless.ensures
