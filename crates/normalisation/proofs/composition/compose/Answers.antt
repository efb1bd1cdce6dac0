use Rattle.std.proofs.Common.{ℕ, List, Option, take, sym, ◌∙◌, arith}
use Rattle.ucd_model.specs.CanonicalOrder.{class_of}
use Rattle.ucd_facts.specs.Composites.{pair_of}
use Rattle.normalisation.proofs.JoiningLemmas.{compose_more, compose_end}
use Rattle.normalisation.proofs.composition.compose.Goals as goal

pub points-preserved : goal.points-preserved
points-preserved g c =
    let class : ℕ → ℕ = class_of (g.W.FactView.facts_of c.args.view.now) in
    let pair : ℕ → ℕ → Option ℕ = pair_of (g.W.FactView.facts_of c.args.view.now) in
    let put = c.compose_next-so_far in
    record {
      so_far = put.ensures.so_far;
      length = put.ensures.length ∙ c.points.invariant.length;
      starter = put.ensures.starter;
      rest = compose_more class pair c.points.s put.new.s (take c.points.so_far.len c.points.s) (take put.result.len put.new.s) c.points.at (omega arith) put.ensures.composed put.ensures.rest ∙ c.points.invariant.rest;
    }

pub returns : goal.returns
returns g c =
    let class : ℕ → ℕ = class_of (g.W.FactView.facts_of c.args.view.now) in
    let pair : ℕ → ℕ → Option ℕ = pair_of (g.W.FactView.facts_of c.args.view.now) in
    let done : List ℕ = take c.points.so_far.len c.points.s in
    c.truncate.ensures ∙ sym (compose_end class pair c.points.s done c.points.at (omega arith)) ∙ c.points.invariant.rest
