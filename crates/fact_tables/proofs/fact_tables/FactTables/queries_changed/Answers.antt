use Rattle.std.proofs.Common.{List, subst, sym}
use Rattle.ucd_points.specs.Bounds.{Bounds}
use Rattle.fact_tables.specs.Changes.{StaysOutside}
use Rattle.fact_tables.specs.FactTables.{facts_at}
use Rattle.fact_tables.specs.declared.now_or_next.NowOrNext.TheVariants.{Now, Next}
use Rattle.fact_tables.proofs.ChangeLemmas.{tells_all}
use Rattle.fact_tables.proofs.TableLemmas.{listed_at}
use Rattle.fact_tables.proofs.fact_tables.FactTables.queries_changed.Goals as goal

pub returns-clause-tells : goal.returns-clause-tells
returns-clause-tells g c =
    let t = c.args.self.now in
    let found = c.in_ok-reached.ensures in
    let all = c.in_ok-queries.ensures in
    tells_all t.index (facts_at Now t) (facts_at Next t) c.as_slice.result.now c.in_ok-reached.reached c.in_ok-queries.queries.items c.sorted_queries.result (listed_at Now t) (listed_at Next t)
    (subst (λ (spans : List Bounds). StaysOutside spans (facts_at Now t) (facts_at Next t)) (sym c.as_slice.ensures) t.stays)
    found.queries found.done all.gathers all.pairs all.seconds c.sorted_queries.ensures.asked
