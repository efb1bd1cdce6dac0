use Rattle.std.proofs.Common.{◌≡◌, ◌+◌, ◌∙◌, arith}
use Rattle.range_table.specs.RunTable.{values_now}
use Rattle.fact_tables.specs.PaintLemmas.{stretch_more, all_painted}
use Rattle.fact_tables.proofs.copying.put_words.Goals as goal

pub stretches-preserved : goal.stretches-preserved
stretches-preserved g c = record {
  from = omega arith;
  within = omega arith;
  now = λ k lt. c.in_ok-prepare.ensures.now k lt ∙ c.stretches.invariant.now k lt;
  next = λ k lt.
      stretch_more (values_now c.args.from.now) c.args.span.lo c.stretches.at c.point-first.result c.number-at.result c.lesser-last.result k c.run-run.result.value _ _ _
      (omega arith) (omega arith) c.run-run.ensures.value (omega arith)
      (λ low high. c.run-run.ensures.same k low (omega arith))
      (c.in_ok-prepare.ensures.ok k lt) (c.stretches.invariant.next k lt) (omega arith);
}

pub returns-clause-ok : goal.returns-clause-ok
returns-clause-ok g c k lt =
    let end : c.stretches.at ≡ c.args.span.hi + 1 = omega arith in
    c.stretches.invariant.next k lt ∙ all_painted (values_now c.args.from.now k) (g.T.Table.next c.args.into.now k) c.args.span.lo c.args.span.hi c.stretches.at k end
