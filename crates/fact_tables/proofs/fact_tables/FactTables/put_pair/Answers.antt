use Rattle.std.proofs.lemmas.Result.{on_ok_weaker}
use Rattle.ucd_facts.specs.Composites.{pair_of}
use Rattle.ucd_facts.specs.declared.query.Query.TheVariants.{Pair}
use Rattle.fact_tables.specs.FactTables.{facts_at}
use Rattle.fact_tables.specs.declared.now_or_next.NowOrNext.TheVariants.{Now, Next}
use Rattle.fact_tables.proofs.ChangeLemmas.{gathers_put, told_put, decides_via}
use Rattle.fact_tables.proofs.fact_tables.FactTables.put_pair.Goals as goal

pub returns-clause-gathers : goal.returns-clause-gathers
returns-clause-gathers g c =
    let t = c.args.self.now in
    let decides = decides_via c.is_same_point-same.result c.composite-now.result c.composite-next.result (pair_of (facts_at Now t) c.args.s c.args.y) (pair_of (facts_at Next t) c.args.s c.args.y) c.composite-now.ensures c.composite-next.ensures c.is_same_point-same.ensures in
    on_ok_weaker c.put_unless.result (λ e. gathers_put (facts_at Now t) (facts_at Next t) c.args.queries.now.items c.put_unless.new.queries.items (Pair c.args.s c.args.y) c.is_same_point-same.result decides e) c.put_unless.ensures

pub returns-clause-told : goal.returns-clause-told
returns-clause-told g c =
    let t = c.args.self.now in
    let decides = decides_via c.is_same_point-same.result c.composite-now.result c.composite-next.result (pair_of (facts_at Now t) c.args.s c.args.y) (pair_of (facts_at Next t) c.args.s c.args.y) c.composite-now.ensures c.composite-next.ensures c.is_same_point-same.ensures in
    on_ok_weaker c.put_unless.result (λ e. told_put (facts_at Now t) (facts_at Next t) c.args.queries.now.items c.put_unless.new.queries.items (Pair c.args.s c.args.y) c.is_same_point-same.result decides e) c.put_unless.ensures
