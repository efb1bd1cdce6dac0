use Rattle.std.proofs.Common.{◌++◌, map, ap, ◌∙◌, arith, take_all}
use Rattle.stability_policies.specs.BrokenStretches.{points_of}
use Rattle.stability_policies.specs.declared.breaks.Break.TheVariants.{At}
use Rattle.stability_policies.proofs.StretchLemmas.{points_more}
use Rattle.stability_policies.proofs.point_breaks.put_points.Goals as goal

pub stretches-preserved : goal.stretches-preserved
stretches-preserved c =
    points_more c.args.policy (At c.args.policy) c.args.into.now c.stretches.into c.put_stretch_points.new.into c.args.stretches.now c.stretches.stretch-index c.stretch-item.result (omega (arith, c.stretches-test.true)) c.stretch-item.is
    c.stretches.invariant c.in_ok-put_stretch_points.ensures

pub returns : goal.returns
returns c =
    c.stretches.invariant ∙ ap (λ list. c.args.into.now ++ map (At c.args.policy) (points_of c.args.policy list)) (take_all c.stretches.stretch-index c.args.stretches.now (omega (arith, c.stretches-test.false)))
