use Rattle.std.proofs.Common.{arith}
use Rattle.stability_policies.specs.BrokenStretches.{points_of}
use Rattle.stability_policies.specs.declared.policy.Policy.TheVariants.{P10}
use Rattle.stability_policies.proofs.StretchLemmas.{breaking_all, breaking_next}
use Rattle.stability_policies.proofs.sieving.stretches_changing_caseless.Goals as goal

pub points-preserved : goal.points-preserved
points-preserved g c = record {
  so_far = breaking_next (g.O.FactView.facts_of c.args.old.now) (g.N.FactView.facts_of c.args.new.now) P10 c.points.number c.at-c.result c.last_alike-last.result c.number-number.result (points_of P10 c.points.stretches) (points_of P10 c.put_if_caseless_changes.new.into)
      c.at-c.ensures c.number-number.ensures.value c.last_alike-last.ensures.from (c.last_alike-last.ensures.alike.broken P10) c.points.invariant.so_far c.in_ok-put_if_caseless_changes.ensures;
  within = omega (arith, c.number-number.ensures.bound);
}

pub returns : goal.returns
returns g c =
    breaking_all (g.O.FactView.facts_of c.args.old.now) (g.N.FactView.facts_of c.args.new.now) P10 c.points.number (points_of P10 c.points.stretches) (omega (arith, c.points.invariant.within, c.points-test.false)) c.points.invariant.so_far
