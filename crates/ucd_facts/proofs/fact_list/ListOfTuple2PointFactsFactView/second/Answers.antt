use Rattle.std.proofs.Common.{ℕ, sym, ◌∙◌, arith}
use Rattle.ucd_facts.specs.CompositeProofs.{second_of_some, second_of_none}
use Rattle.ucd_facts.specs.FactList.{facts_in}
use Rattle.ucd_facts.proofs.fact_list.ListOfTuple2PointFactsFactView.second.Goals as goal

pub returns-in-points : goal.returns-in-points
returns-in-points c =
    let q : ℕ = c.in-Some.q in
    sym (second_of_some (facts_in c.args.self.now) c.args.y q (omega (arith, c.in-Some.ensures, c.point_count-number-end.ensures.value)) (sym c.is_composite_ending_with.ensures ∙ c.if-is_composite_ending_with.true))

pub returns : goal.returns
returns c = sym (second_of_none (facts_in c.args.self.now) c.args.y (λ k below. c.points.invariant k (omega (arith, c.point_count-number-end.ensures.value))))
