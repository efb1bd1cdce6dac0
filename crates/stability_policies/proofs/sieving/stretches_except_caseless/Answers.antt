use Rattle.std.proofs.Common.{arith}
use Rattle.stability_policies.specs.BrokenStretches.{points_of}
use Rattle.stability_policies.proofs.StretchLemmas.{breaking_all, breaking_next, decides_all, decides_next}
use Rattle.stability_policies.proofs.sieving.stretches_except_caseless.Goals as goal

pub points-preserved : goal.points-preserved
points-preserved g c =
    let O = g.O.FactView.facts_of c.args.old.now in
    let N = g.N.FactView.facts_of c.args.new.now in
    record {
      others = λ policy other. breaking_next O N policy c.points.number c.at-c.result c.last_alike-last.result c.number-number.result (points_of policy c.points.stretches) (points_of policy c.put_stretch_and_test_forms.new.into)
          c.at-c.ensures c.number-number.ensures.value c.last_alike-last.ensures.from (c.last_alike-last.ensures.alike.broken policy) (c.points.invariant.others policy other) (c.in_ok-keep_forms.ensures.put policy other);
      forms = decides_next O N c.points.number c.at-c.result c.last_alike-last.result c.number-number.result c.points.keep_forms c.in_ok-keep_forms.field-0
          c.at-c.ensures c.number-number.ensures.value c.last_alike-last.ensures.from c.last_alike-last.ensures.alike.kept c.points.invariant.forms c.in_ok-keep_forms.ensures.keeps;
      within = omega (arith, c.number-number.ensures.bound);
    }

pub returns-clause-others : goal.returns-clause-others
returns-clause-others g c policy other =
    breaking_all (g.O.FactView.facts_of c.args.old.now) (g.N.FactView.facts_of c.args.new.now) policy c.points.number (points_of policy c.points.stretches) (omega (arith, c.points.invariant.within, c.points-test.false)) (c.points.invariant.others policy other)

pub returns-clause-forms : goal.returns-clause-forms
returns-clause-forms g c =
    decides_all (g.O.FactView.facts_of c.args.old.now) (g.N.FactView.facts_of c.args.new.now) c.points.number c.points.keep_forms (omega (arith, c.points.invariant.within, c.points-test.false)) c.points.invariant.forms
