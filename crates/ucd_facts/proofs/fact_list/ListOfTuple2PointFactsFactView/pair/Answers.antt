use Rattle.std.proofs.Common.{ℕ, sym, ◌∙◌, arith}
use Rattle.ucd_facts.specs.CompositeProofs.{pair_of_first, pair_of_none}
use Rattle.ucd_facts.specs.FactList.{facts_in}
use Rattle.ucd_facts.proofs.fact_list.ListOfTuple2PointFactsFactView.pair.Goals as goal

pub returns-in-points : goal.returns-in-points
returns-in-points c =
    let q : ℕ = c.in-Some.q in
    sym (pair_of_first (facts_in c.args.self.now) c.args.s c.args.y q (omega (arith, c.in-Some.ensures, c.point_count-number-end.ensures.value)) (sym c.composes.ensures ∙ c.if-composes.true) (λ k below. c.points.invariant k (omega (arith, c.in-Some.ensures))))

pub returns : goal.returns
returns c = sym (pair_of_none (facts_in c.args.self.now) c.args.s c.args.y (λ k below. c.points.invariant k (omega (arith, c.point_count-number-end.ensures.value))))
