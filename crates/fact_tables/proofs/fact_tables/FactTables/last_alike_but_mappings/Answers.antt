use Rattle.std.proofs.Common.{arith}
use Rattle.fact_tables.specs.FactTables.{words_at, rests_at}
use Rattle.fact_tables.specs.declared.now_or_next.NowOrNext.TheVariants.{Now}
use Rattle.fact_tables.proofs.AlikeLemmas.{same_words}
use Rattle.fact_tables.proofs.fact_tables.FactTables.last_alike_but_mappings.Goals as goal

pub returns : goal.returns
returns g c = record {
  from = c.last_of_stretch-last.ensures.from;
  each = λ d low high.
      same_words (words_at Now c.args.self.now) (rests_at Now c.args.self.now) c.args.c d
      (omega (arith, c.number-first.ensures.value, c.number-first.ensures.bound))
      (omega (arith, high, c.number-last.ensures.value, c.number-last.ensures.bound))
      (c.last_of_stretch-last.ensures.same d low high);
}
