use Rattle.std.proofs.Common.{length, ap, arith}
use Rattle.part_list.proofs.BeforeLemmas.{before_left}
use Rattle.part_list.proofs.search.place_of.Goals as goal

pub overflow_add-place : goal.overflow_add-place
overflow_add-place g c =
    let step = before_left c.args.parts.now c.parts.left c.index-parts-left.result c.parts-test.true c.parts.invariant.within c.index-parts-left.is in
    let size = ap length c.next.ensures in
    let stands = c.parts.invariant.stands in
    let few = c.requires.few in
    omega arith

pub parts-preserved : goal.parts-preserved
parts-preserved g c =
    let step = before_left c.args.parts.now c.parts.left c.index-parts-left.result c.parts-test.true c.parts.invariant.within c.index-parts-left.is in
    let size = ap length c.next.ensures in
    let within = c.parts.invariant.within in
    let stands = c.parts.invariant.stands in
    record { within = omega arith; stands = omega arith }
