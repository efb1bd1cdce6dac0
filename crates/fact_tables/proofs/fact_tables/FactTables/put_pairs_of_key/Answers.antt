use Rattle.std.proofs.Common.{subst}
use Rattle.std.proofs.lemmas.Result.{on_ok_weaker}
use Rattle.fact_tables.specs.Changes.{ReachesOwn}
use Rattle.fact_tables.specs.FactTables.{words_at, rests_at, facts_at}
use Rattle.fact_tables.specs.declared.now_or_next.NowOrNext.TheVariants.{Now, Next}
use Rattle.fact_tables.proofs.ChangeLemmas.{reaches_none}
use Rattle.fact_tables.proofs.fact_tables.FactTables.put_pairs_of_key.Goals as goal

pub returns-in-Some-clause-own : goal.returns-in-Some-clause-own
returns-in-Some-clause-own g c =
    let t = c.args.self.now in
    on_ok_weaker c.put_own_pairs.result (λ own. subst (ReachesOwn (facts_at Now t) (facts_at Next t) c.put_own_pairs.new.pairs.items) c.in-Some.ensures own) c.put_own_pairs.ensures.own

pub returns-in-None-clause-own : goal.returns-in-None-clause-own
returns-in-None-clause-own g c =
    let t = c.args.self.now in
    reaches_none (words_at Now t) (words_at Next t) (rests_at Now t) (rests_at Next t) c.args.pairs.now.items _ c.in-None.ensures
