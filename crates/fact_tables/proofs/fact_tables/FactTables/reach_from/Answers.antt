use Rattle.std.proofs.Common.{◌≡◌, subst, arith, inr}
use Rattle.fact_tables.specs.Changes.{IsDone}
use Rattle.fact_tables.specs.FactTables.{facts_at}
use Rattle.fact_tables.specs.declared.now_or_next.NowOrNext.TheVariants.{Now, Next}
use Rattle.fact_tables.proofs.fact_tables.FactTables.reach_from.Goals as goal

pub returns-clause-done : goal.returns-clause-done
returns-clause-done g c =
    let t = c.args.self.now in
    record {
      from = omega arith;
      each = λ d low high.
          let same : c.args.c ≡ d = omega arith in
          subst (IsDone t.index (facts_at Now t) (facts_at Next t) c.reach.new.reached) same (inr c.in_ok-reach.ensures.seen);
    }
