use Rattle.std.proofs.Common.{ℕ, List, ap, ◌∙◌}
use Rattle.std.proofs.lemmas.Result.{on_ok_weaker}
use Rattle.ucd_facts.specs.declared.query.Query.TheVariants.{Pair}
use Rattle.fact_tables.specs.Changes.{is_among}
use Rattle.fact_tables.specs.FactTables.{facts_at}
use Rattle.fact_tables.specs.declared.now_or_next.NowOrNext.TheVariants.{Now, Next}
use Rattle.fact_tables.proofs.ChangeLemmas.{gathers_more, told_grows}
use Rattle.fact_tables.proofs.fact_tables.FactTables.put_composites.Goals as goal

pub returns-clause-gathers : goal.returns-clause-gathers
returns-clause-gathers g c =
    let t = c.args.self.now in
    on_ok_weaker c.put_seconds.result (λ more. gathers_more (facts_at Now t) (facts_at Next t) _ _ _ c.in_ok-put_pairs.ensures.gathers more) c.put_seconds.ensures.gathers

pub returns-clause-pairs : goal.returns-clause-pairs
returns-clause-pairs g c =
    let t = c.args.self.now in
    on_ok_weaker c.put_seconds.result (λ more s y is. told_grows (facts_at Now t) (facts_at Next t) c.put_pairs.new.queries.items c.put_seconds.new.queries.items (Pair s y) more (c.in_ok-put_pairs.ensures.pairs s y is)) c.put_seconds.ensures.gathers

pub returns-clause-seconds : goal.returns-clause-seconds
returns-clause-seconds g c = on_ok_weaker c.put_seconds.result (λ told s y is. told y (ap (λ (l : List ℕ). is_among l y) c.deref.ensures.value ∙ c.in_ok-seconds.ensures.among s y is)) c.put_seconds.ensures.told
