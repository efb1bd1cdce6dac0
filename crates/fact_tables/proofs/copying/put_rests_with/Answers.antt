use Rattle.std.proofs.Common.{◌≡◌, ◌+◌, refl, ap, subst, ◌∙◌, arith}
use Rattle.ucd_points.specs.Stretches.{HoldsTo}
use Rattle.fact_tables.specs.PointLists.{lists_now}
use Rattle.fact_tables.specs.RowTables.{rest_in}
use Rattle.fact_tables.specs.declared.data_lists.DataLists.{DataLists}
use Rattle.fact_tables.specs.PaintLemmas.{stretch_more, all_painted}
use Rattle.fact_tables.proofs.copying.put_rests_with.Goals as goal
use Rattle.fact_tables.proofs.copying.put_rests_with.Goals.{then-bare-at, else-bare-at}

pub last_alike_rest-requires-clause-mapping : goal.last_alike_rest-requires-clause-mapping
last_alike_rest-requires-clause-mapping g c =
    subst (λ (lists : DataLists). HoldsTo (λ d. lists_now lists.mappings d ≡ lists_now lists.mappings c.point-first.result) c.point-first.result c.run-mapping.result.last) c.deref.ensures c.run-mapping.ensures.same

pub put_rest-requires-clause-mapping : goal.put_rest-requires-clause-mapping
put_rest-requires-clause-mapping g c =
    c.run-mapping.ensures.points ∙ ap (λ (lists : DataLists). lists_now lists.mappings c.point-first.result) c.deref.ensures

pub stretches-preserved : goal.stretches-preserved
stretches-preserved g c = record {
  from = omega arith;
  within = omega arith;
  bare = λ d low high. elim c.if-bare-at.branch [
    | then-bare-at w ↦ w.bare_until-bare.ensures.bare d (omega arith) (omega (arith, w.bare-is))
    | else-bare-at w ↦ c.stretches.invariant.bare d (omega arith) (omega (arith, w.bare-is))
  ];
  bound = elim c.if-bare-at.branch [
    | then-bare-at w ↦ omega (arith, w.bare-is, w.bare_until-bare.ensures.bound)
    | else-bare-at w ↦ omega (arith, w.bare-is, c.stretches.invariant.bound)
  ];
  held = c.in_ok-put_rest.ensures.held;
  now = λ k lt. c.in_ok-put_rest.ensures.now k lt ∙ c.stretches.invariant.now k lt;
  next = λ k lt.
      stretch_more (rest_in c.args.from.now) c.args.span.lo c.stretches.at c.point-first.result c.number-at.result c.lesser-last.result k (rest_in c.args.from.now c.point-first.result) _ _ _
      (omega arith) (omega arith) refl (omega arith)
      (λ low high. c.last_alike_rest.ensures.each k low (omega arith))
      (c.in_ok-put_rest.ensures.ok k lt) (c.stretches.invariant.next k lt) (omega arith);
}

pub returns-clause-ok : goal.returns-clause-ok
returns-clause-ok g c k lt =
    let end : c.stretches.at ≡ c.args.span.hi + 1 = omega arith in
    c.stretches.invariant.next k lt ∙ all_painted (rest_in c.args.from.now k) (g.S.Store.next c.args.into.now k) c.args.span.lo c.args.span.hi c.stretches.at k end
