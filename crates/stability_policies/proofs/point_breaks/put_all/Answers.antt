use Rattle.std.proofs.Common.{◌++◌, ◌∷◌, [], ap, ◌∙◌, arith}
use Rattle.stability_policies.specs.declared.breaks.Break.TheVariants.{At}
use Rattle.stability_policies.proofs.PointLemmas.{point_more}
use Rattle.stability_policies.proofs.point_breaks.put_all.Goals as goal

pub points-preserved : goal.points-preserved
points-preserved c = record {
  so_far = point_more (At c.args.policy) c.args.into.now c.points.into c.push.new.self c.args.first c.points.number c.points.invariant.from c.points.invariant.so_far
      (c.in_ok-push.ensures.ok ∙ ap (λ k. c.points.into ++ At c.args.policy k ∷ []) c.at.ensures);
  from = omega (arith, c.points.invariant.from);
  within = omega (arith, c.points.invariant.from, c.points-test.true);
}
