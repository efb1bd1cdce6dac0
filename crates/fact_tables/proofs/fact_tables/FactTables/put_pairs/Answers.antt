use Rattle.std.proofs.Common.{◌≡◌, ◌<◌, length, take, sym, arith}
use Rattle.std.proofs.lemmas.Bool.{true≢false}
use Rattle.std.proofs.lemmas.List.{take_all}
use Rattle.fact_tables.specs.FactTables.{facts_at}
use Rattle.fact_tables.specs.declared.now_or_next.NowOrNext.TheVariants.{Now, Next}
use Rattle.fact_tables.proofs.ChangeLemmas.{gathers_same, gathers_more, pair_more}
use Rattle.fact_tables.proofs.fact_tables.FactTables.put_pairs.Goals as goal

pub pairs-init : goal.pairs-init
pairs-init g c = record {
  gathers = gathers_same (facts_at Now c.args.self.now) (facts_at Next c.args.self.now) c.args.queries.now.items;
  pairs = λ s y is. absurd (true≢false (sym is));
}

pub pairs-preserved : goal.pairs-preserved
pairs-preserved g c =
    let t = c.args.self.now in
    let step = c.in_ok-put_pair.ensures in
    let inside : c.pairs.pair-index < length c.args.pairs.now = omega arith in
    record {
      gathers = gathers_more (facts_at Now t) (facts_at Next t) _ _ _ c.pairs.invariant.gathers step.gathers;
      pairs = λ s y is. pair_more (facts_at Now t) (facts_at Next t) c.args.pairs.now c.pairs.pair-index c.pair-item.result s y c.pairs.queries.items c.put_pair.new.queries.items inside is step.gathers (c.pairs.invariant.pairs s y)
          (rw (sym c.pair-item.is) step.told);
    }

pub returns-clause-pairs : goal.returns-clause-pairs
returns-clause-pairs g c s y is =
    let all : take c.pairs.pair-index c.args.pairs.now ≡ c.args.pairs.now = take_all c.pairs.pair-index c.args.pairs.now (omega arith) in
    c.pairs.invariant.pairs s y (rw all is)
