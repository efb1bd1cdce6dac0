use Rattle.std.proofs.Common.{◌≡◌, ◌<◌, length, take, sym, arith}
use Rattle.std.proofs.lemmas.Bool.{true≢false}
use Rattle.std.proofs.lemmas.List.{take_all}
use Rattle.fact_tables.specs.FactTables.{facts_at}
use Rattle.fact_tables.specs.declared.now_or_next.NowOrNext.TheVariants.{Now, Next}
use Rattle.fact_tables.proofs.ChangeLemmas.{gathers_same, gathers_more, second_more}
use Rattle.fact_tables.proofs.fact_tables.FactTables.put_seconds.Goals as goal

pub seconds-init : goal.seconds-init
seconds-init g c = record {
  gathers = gathers_same (facts_at Now c.args.self.now) (facts_at Next c.args.self.now) c.args.queries.now.items;
  told = λ y is. absurd (true≢false (sym is));
}

pub seconds-preserved : goal.seconds-preserved
seconds-preserved g c =
    let t = c.args.self.now in
    let step = c.in_ok-put_second.ensures in
    let inside : c.seconds.second-index < length c.args.seconds.now = omega arith in
    record {
      gathers = gathers_more (facts_at Now t) (facts_at Next t) _ _ _ c.seconds.invariant.gathers step.gathers;
      told = λ y is. second_more (facts_at Now t) (facts_at Next t) c.args.seconds.now c.seconds.second-index c.second-item.result y c.seconds.queries.items c.put_second.new.queries.items inside is step.gathers (c.seconds.invariant.told y)
          (rw (sym c.second-item.is) step.told);
    }

pub returns-clause-told : goal.returns-clause-told
returns-clause-told g c y is =
    let all : take c.seconds.second-index c.args.seconds.now ≡ c.args.seconds.now = take_all c.seconds.second-index c.args.seconds.now (omega arith) in
    c.seconds.invariant.told y (rw all is)
