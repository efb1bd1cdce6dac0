use Rattle.std.proofs.Common.{arith, inl, inr}
use Rattle.std.proofs.lemmas.Bool.{cases_lt}
use Rattle.fact_tables.specs.FactTables.{facts_at}
use Rattle.fact_tables.specs.declared.now_or_next.NowOrNext.TheVariants.{Now, Next}
use Rattle.fact_tables.proofs.ChangeLemmas.{gathers_same, gathers_more, done_grows}
use Rattle.fact_tables.proofs.fact_tables.FactTables.reach_span.Goals as goal

pub stretches-init : goal.stretches-init
stretches-init g c = record {
  queries = gathers_same (facts_at Now c.args.self.now) (facts_at Next c.args.self.now) c.args.reached.now.queries.items;
  pairs = λ s y is. is;
  done = λ k low high. absurd (omega arith);
}

pub stretches-preserved : goal.stretches-preserved
stretches-preserved g c =
    let t = c.args.self.now in
    let step = c.in_ok-last.ensures in
    record {
      queries = gathers_more (facts_at Now t) (facts_at Next t) _ _ _ c.stretches.invariant.queries step.queries;
      pairs = λ s y is. step.pairs s y (c.stretches.invariant.pairs s y is);
      done = λ k low high. elim (cases_lt k c.stretches.at) [
        | inl before ↦ done_grows t.index (facts_at Now t) (facts_at Next t) c.stretches.reached c.reach_from.new.reached k step.queries step.pairs (c.stretches.invariant.done k low before)
        | inr from ↦ step.done.each k (omega arith) (omega arith)
      ];
    }
